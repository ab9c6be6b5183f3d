use Rattle.register_pages.specs.Shown.{AddsLines}
use Rattle.register_pages.proofs.refused.lines_of.Given as goal

abbrev pub invariant-loop-finding : goal.invariant-loop-finding
invariant-loop-finding l = AddsLines l.finding-index l.initial.rows l.rows
