use Rattle.std.proofs.Common.{ap, ◌∙◌}
use Rattle.database_places.specs.declared.reading.changes.Change.TheVariants.{Cut}
use Rattle.database_places.specs.Changes.{laid_over}
use Rattle.database_places.proofs.Laying.{last}
use Rattle.database_places.proofs.reading.changes.Changes.cut.Goals as goal

pub returns-clause-cut : goal.returns-clause-cut
returns-clause-cut c at under =
    ap (λ made. laid_over made at under) c.in_ok-push.ensures.items
    ∙ last c.args.self.now.made.items (Cut c.args.len) at under
