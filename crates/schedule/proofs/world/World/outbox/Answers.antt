use Rattle.std.proofs.Common.{◌≡◌, None, IfSome, sym, subst}
use Rattle.filing_world.specs.Step.{IsAway}
use Rattle.schedule.specs.Filers.{boxes}
use Rattle.schedule.specs.Played.{IsLent}
use Rattle.schedule.proofs.world.World.outbox.Goals as goal

pub returns-clause-lent : goal.returns-clause-lent
returns-clause-lent g c =
    rw (sym c.self.view_is) (subst (λ fs. IfSome c.outbox_at.result (λ it. IsLent (boxes fs) c.args.outbox it.now))
    c.as_slice.ensures.value c.outbox_at.ensures.lent)

pub returns-clause-none : goal.returns-clause-none
returns-clause-none g c =
    rw (sym c.self.view_is) (subst (λ fs. c.outbox_at.result ≡ None
    → IsAway (boxes fs) c.args.outbox) c.as_slice.ensures.value c.outbox_at.ensures.none)
