use Rattle.std.proofs.Common.{◌≡◌, take, IsTrue}
use Rattle.sqlite.specs.Held.{state}
use Rattle.sqlite.specs.State.{HasCleanDisk}
use Rattle.table_rows.specs.Leaving.{OnlyWrites}
use Rattle.table_rows.specs.Rows.{counted_from}
use Rattle.register_tables.specs.Gains.{GainsRows}
use Rattle.register_store.proofs.rows.insert_items.Given as goal

-- the rows of the first ones are gained
abbrev pub invariant-items : goal.invariant-items
invariant-items g l =
    let old = state g.S.Store l.fn.tx.conn.now in
    let now = state g.S.Store l.tx.conn.now in record {
      count : l.at ≡ l.item-index;
      gains : HasCleanDisk now → IsTrue old.in_transaction
          → GainsRows g.T.InsertItem.table (counted_from (g.T.RowItem.row_of l.number) 1 (take l.item-index l.items))
          old now;
      leaves : OnlyWrites g.S.Store l.fn.tx.conn l.tx.conn;
    }
