use Rattle.std.proofs.Common.{◌≡◌, ◌+◌, ◌≤◌, take, IsTrue}
use Rattle.sqlite.specs.Held.{state}
use Rattle.sqlite.specs.State.{HasCleanDisk}
use Rattle.table_rows.specs.Leaving.{OnlyWrites}
use Rattle.register_store.specs.Changes.{AddsAllInside}
use Rattle.register_store.specs.Outcomes.{number_past}
use Rattle.register_store.proofs.write.write_all.Given as goal

-- the first ones are written
abbrev pub invariant-each : goal.invariant-each
invariant-each g l =
    let old = state g.S.Store l.fn.tx.conn.now in
    let now = state g.S.Store l.tx.conn.now in record {
      at : l.place ≡ l.seq + l.row-index;
      next_is : l.next ≡ number_past l.number (take l.row-index l.rows);
      few : l.next ≤ l.number + l.row-index;
      adds : HasCleanDisk now → IsTrue old.in_transaction
          → AddsAllInside l.seq l.number (take l.row-index l.rows) old now;
      leaves : OnlyWrites g.S.Store l.fn.tx.conn l.tx.conn;
    }
