use Rattle.register_rows.proofs.MomentLemmas.{AreDatedSoFar}
use Rattle.register_rows.proofs.dates.dated_from.Given as goal

abbrev pub invariant-loop-at : goal.invariant-loop-at
invariant-loop-at l = AreDatedSoFar l.first l.rows l.at
