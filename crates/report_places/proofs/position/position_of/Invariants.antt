use Rattle.std.proofs.Common.{◌≡◌, ◌+◌, ◌≤◌, fold, take}
use Rattle.report_places.specs.Position.{start, step}
use Rattle.report_places.proofs.position.position_of.Given as goal

abbrev pub invariant-loop-byte : goal.invariant-loop-byte
invariant-loop-byte l =
    (l.position ≡ fold step start (take l.byte-index l.before)) × (l.position.line ≤ l.byte-index + 1)
    × (l.position.column ≤ l.byte-index + 1)
