use Rattle.std.proofs.Common.{ap, ◌∙◌}
use Rattle.std.specs.Prelude.{option_map}
use Rattle.std.proofs.lemmas.Result.{IfOk-weaker}
use Rattle.register_rows.specs.Catalogue.{entry_numbered}
use Rattle.intake_process.proofs.Dating.{moment_placed, moment_unplaced}
use Rattle.intake_process.proofs.tasks.dating.received.Goals as goal

pub returns-in-Some-clause-moment : goal.returns-in-Some-clause-moment
returns-in-Some-clause-moment g c clean F has moments dated =
    let n = c.args.number in
    let place = c.in-Some.ensures ∙ ap (λ es. option_map (λ e. e.seq) (entry_numbered es n)) has.catalogue_is in
    IfOk-weaker c.moment_at.result _ _ (λ m is. is ∙ moment_placed F moments n c.in-Some.place place)
    (c.moment_at.ensures.moment clean F has moments dated)

pub returns-in-None-clause-moment : goal.returns-in-None-clause-moment
returns-in-None-clause-moment g c clean F has moments dated =
    let n = c.args.number in
    moment_unplaced F moments n
    (c.in-None.ensures ∙ ap (λ es. option_map (λ e. e.seq) (entry_numbered es n)) has.catalogue_is)
