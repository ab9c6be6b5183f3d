use Rattle.std.proofs.Common.{ap, ◌∙◌, arith}
use Rattle.database_places.specs.declared.reading.changes.Change.TheVariants.{Write}
use Rattle.database_places.specs.Changes.{laid_over, written_over}
use Rattle.database_places.proofs.Laying.{last}
use Rattle.database_places.proofs.reading.changes.Changes.write.Goals as goal

pub returns-clause-written : goal.returns-clause-written
returns-clause-written c at under =
    ap (λ made. laid_over made at under) c.in_ok-push.ensures.items
    ∙ last c.args.self.now.made.items (Write c.args.at c.in_ok-bytes.bytes) at under
    ∙ ap (λ bytes. written_over c.args.at bytes at (laid_over c.args.self.now.made.items at under)) (grind arith)
