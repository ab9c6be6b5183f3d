use Rattle.std.proofs.Common.{[], take}
use Rattle.sqlite.specs.Held.{state}
use Rattle.table_rows.specs.Leaving.{Leaves}
use Rattle.table_rows.specs.Leaving.Ending.{Passed}
use Rattle.register_pages.specs.Shown.{AddsRows}
use Rattle.register_pages.proofs.refused.read_rows.Given as goal

abbrev pub invariant-loop-place : goal.invariant-loop-place
invariant-loop-place g l =
    record {
      leaves : Leaves Passed (state g.S.Store l.fn.conn) (state g.S.Store l.conn);
      shown : AddsRows (take l.place-index l.places) [] l.rows;
    }
