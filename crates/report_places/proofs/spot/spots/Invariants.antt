use Rattle.std.proofs.Common.{◌≡◌, ◌+◌, ◌≤◌, ◌++◌, drop}
use Rattle.json.specs.Lex.{between}
use Rattle.report_places.specs.Position.{start}
use Rattle.report_places.specs.Scan.{mode_of, spots_from}
use Rattle.report_places.proofs.spot.spots.Given as goal

abbrev pub invariant-loop-offset : goal.invariant-loop-offset
invariant-loop-offset l =
    (l.spots.items ++ spots_from (mode_of l.mode) l.position l.offset (drop l.offset l.text)
    ≡ spots_from between start 0 l.text) × (l.position.line ≤ l.offset + 1) × (l.position.column ≤ l.offset + 1)
