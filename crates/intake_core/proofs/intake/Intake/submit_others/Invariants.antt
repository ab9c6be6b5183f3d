use Rattle.std.proofs.Common.{◌≤◌, ◌-◌, take, length, vec_len}
use Rattle.intake_core.specs.Together.{AddsResults, in_milliseconds}
use Rattle.intake_core.proofs.intake.Intake.submit_others.Given as goal

-- as many are decided as there are results more
abbrev pub invariant-loop-at : goal.invariant-loop-at
invariant-loop-at g l = record {
  adds : AddsResults g.S.Store (take (vec_len l.results - l.start) l.requests)
      (take (vec_len l.results - l.start) (in_milliseconds l.moments)) l.fn.self l.self l.fn.results l.results;
  begun : l.start ≤ vec_len l.results;
  past : l.at ≤ vec_len l.results - l.start;
  within : vec_len l.results - l.start ≤ length l.requests;
}
