use Rattle.std.proofs.Common.{take}
use Rattle.intake_core.specs.Together.{AreRowsOf}
use Rattle.intake_core.proofs.intake.group.rows_of.Given as goal

-- the first ones have their rows
abbrev pub invariant-loop-at : goal.invariant-loop-at
invariant-loop-at l = AreRowsOf (take l.at l.requests) (take l.at l.moments) (take l.at l.judged) l.rows.items
