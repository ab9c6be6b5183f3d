use Rattle.std.proofs.Common.{◌≡◌, map, take, length}
use Rattle.register_rows.specs.Cells.{value_of}
use Rattle.register_rows.proofs.cells.is_row.Given as goal

abbrev pub invariant-loop-at : goal.invariant-loop-at
invariant-loop-at l = record {
  same : take l.at l.row ≡ map value_of (take l.at l.cells);
  long : length l.row ≡ length l.cells;
}
