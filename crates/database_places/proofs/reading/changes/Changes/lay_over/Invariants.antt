use Rattle.std.proofs.Common.{◌≡◌, drop}
use Rattle.database_places.specs.Changes.{laid_over}
use Rattle.database_places.proofs.reading.changes.Changes.lay_over.Given as goal

abbrev pub invariant-loop-change : goal.invariant-loop-change
invariant-loop-change l =
    laid_over (drop l.change-index l.self.made.items) l.at l.buf ≡ laid_over l.self.made.items l.at l.initial.buf
