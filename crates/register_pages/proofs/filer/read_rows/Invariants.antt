use Rattle.sqlite.specs.Held.{state}
use Rattle.table_rows.specs.Leaving.{Leaves}
use Rattle.table_rows.specs.Leaving.Ending.{Passed}
use Rattle.register_pages.proofs.filer.read_rows.Given as goal

abbrev pub invariant-loop-filed : goal.invariant-loop-filed
invariant-loop-filed g l = Leaves Passed (state g.S.Store l.fn.conn) (state g.S.Store l.conn)
