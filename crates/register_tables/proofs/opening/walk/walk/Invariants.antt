use Rattle.std.proofs.Common.{◌≤◌, ◌+◌, List, []}
use Rattle.sqlite.specs.Held.{state}
use Rattle.sqlite.specs.State.{HasCleanDisk}
use Rattle.table_rows.specs.Leaving.{Leaves}
use Rattle.table_rows.specs.Leaving.Ending.{Passed}
use Rattle.filing_model.specs.Request.{Request}
use Rattle.filing_model.specs.Register.{kept}
use Rattle.register_rows.specs.Filed.{AreFiled}
use Rattle.register_rows.specs.Schema.{common_tables}
use Rattle.register_tables.specs.Reads.{IsOurs}
use Rattle.register_tables.specs.Walk.{Walked}
use Rattle.register_tables.proofs.opening.walk.walk.Given as goal

abbrev pub invariant-loop-at : goal.invariant-loop-at
invariant-loop-at g l =
    let old = state g.S.Store l.fn.conn in
    let now = state g.S.Store l.conn in
    let rows = l.fn.start.amends.now in record {
      walked : HasCleanDisk now → IsOurs common_tables old → Walked rows l.total 0 l.fn.start old.now []
          → (F : List Request) × Walked rows l.total l.at l.left old.now F × AreFiled (kept F) l.filed;
      number : l.left.number ≤ l.at + 1;
      leaves : Leaves Passed old now;
    }
