use Rattle.std.proofs.Common.{map, take}
use Rattle.sqlite.specs.Held.{state}
use Rattle.sqlite.specs.State.{HasCleanDisk}
use Rattle.table_rows.specs.Leaving.{OnlyWrites}
use Rattle.table_rows.specs.Statements.{statement_of, AreDone}
use Rattle.table_rows.proofs.statements.run_all.Given as goal

abbrev pub invariant-loop-statement : goal.invariant-loop-statement
invariant-loop-statement g l = record {
  leaves : OnlyWrites g.S.Store l.fn.tx.conn l.tx.conn;
  done : HasCleanDisk (state g.S.Store l.tx.conn.now) → AreDone g.S.Store
      (map statement_of (take l.statement-index l.statements)) l.fn.tx.conn.now l.tx.conn.now;
}
