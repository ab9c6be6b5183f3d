use Rattle.std.proofs.Common.{◌≡◌, string_bytes, take}
use Rattle.intake_process.specs.Showing.{fact_lines}
use Rattle.intake_process.proofs.tasks.showing.fact_lines.Given as goal

abbrev pub invariant-loop-fact : goal.invariant-loop-fact
invariant-loop-fact l = string_bytes l.text ≡ fact_lines (take l.fact-index l.facts)
