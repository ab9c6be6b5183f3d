use Rattle.std.proofs.Common.{◌≡◌, take}
use Rattle.std.specs.List.{flat_map, zip}
use Rattle.finding_lines.specs.Lines.{line}
use Rattle.finding_lines.proofs.telling.lines_at.Given as goal

abbrev pub invariant-loop-index : goal.invariant-loop-index
invariant-loop-index l = l.lines.items ≡ flat_map (line l.form l.file l.body) (take l.index (zip l.findings l.places))
