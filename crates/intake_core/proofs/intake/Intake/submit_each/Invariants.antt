use Rattle.std.proofs.Common.{take}
use Rattle.intake_core.specs.Together.{AddsResults, in_milliseconds}
use Rattle.intake_core.proofs.intake.Intake.submit_each.Given as goal

-- the first ones are decided
abbrev pub invariant-loop-at : goal.invariant-loop-at
invariant-loop-at g l =
    AddsResults g.S.Store (take l.at l.requests) (in_milliseconds (take l.at l.moments)) l.fn.self l.self l.fn.results
    l.results
