use Rattle.std.proofs.Common.{refl, sym}
use Rattle.outbox_process.specs.Process.{parts}
use Rattle.outbox_commands.proofs.Looks.{leaves}
use Rattle.outbox_commands.proofs.errand.tell_same.Goals as goal

pub returns-in-Some-same_as-clause-kept : goal.returns-in-Some-same_as-clause-kept
returns-in-Some-same_as-clause-kept g c =
    λ honest. leaves (parts g.P.Place.lying c.args.process.now) _ honest refl refl c.in-Some.outbox.now
    c.same_as.new.outbox (sym c.in-Some.ensures.value) refl c.same_as.ensures

pub returns-in_default-same_as-clause-kept : goal.returns-in_default-same_as-clause-kept
returns-in_default-same_as-clause-kept g c =
    λ honest. leaves (parts g.P.Place.lying c.args.process.now) _ honest refl refl c.in-Some.outbox.now
    c.same_as.new.outbox (sym c.in-Some.ensures.value) refl c.same_as.ensures
