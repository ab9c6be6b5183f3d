use Rattle.std.proofs.Common.{◌≡◌, take}
use Rattle.std.specs.List.{flat_map}
use Rattle.finding_lines.specs.Lines.{fault_line}
use Rattle.finding_lines.proofs.telling.fault_lines.Given as goal

abbrev pub invariant-loop-finding : goal.invariant-loop-finding
invariant-loop-finding l = l.lines.items ≡ flat_map (fault_line l.form l.file l.fault) (take l.finding-index l.findings)
