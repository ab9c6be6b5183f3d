use Rattle.std.proofs.Common.{◌≡◌, take, string_bytes}
use Rattle.std.specs.Prelude.{flat_map}
use Rattle.outbox_process.specs.Lines.{told_line}
use Rattle.outbox_process.proofs.tasks.lines.state_lines.Given as goal

abbrev pub invariant-loop-id : goal.invariant-loop-id
invariant-loop-id l = string_bytes l.text ≡ flat_map told_line (take l.id-index l.states)
