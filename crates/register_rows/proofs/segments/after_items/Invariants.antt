use Rattle.std.proofs.Common.{◌≡◌, ◌≤◌, take, length}
use Rattle.table_rows.specs.Rows.{counted_from}
use Rattle.register_rows.proofs.segments.after_items.Given as goal

abbrev pub invariant-loop-at : goal.invariant-loop-at
invariant-loop-at g l = record {
  same : take l.at l.rows ≡ counted_from (g.T.RowItem.row_of l.number) 1 (take l.at l.items);
  long : length l.items ≤ length l.rows;
}
