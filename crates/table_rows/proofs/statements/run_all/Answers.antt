use Rattle.std.proofs.Common.{arith}
use Rattle.std.proofs.lemmas.Result.{err_from_is_err_and}
use Rattle.sqlite.specs.Held.{state}
use Rattle.sqlite.specs.State.{HasCleanDisk}
use Rattle.table_rows.proofs.InsideLemmas.{writes_then}
use Rattle.table_rows.proofs.StatementLemmas.{done_inside, done_with, stops_with}
use Rattle.table_rows.proofs.statements.run_all.Goals as goal

pub loop-statement-preserved : goal.loop-statement-preserved
loop-statement-preserved g c =
    let before = c.loop-statement.invariant in
    let ran = c.in_ok-run.ensures in record {
      leaves = writes_then before.leaves ran.leaves;
      done = λ clean.
          let mid : HasCleanDisk (state g.S.Store c.loop-statement.tx.conn.now) =
          omega (arith, ran.leaves.survives.clean, clean) in
          done_with g.S.Store c.args.statements.now c.loop-statement.statement-index _ c.loop-statement-test.true
          c.args.tx.now.conn.now c.loop-statement.tx.conn.now c.run.new.tx.conn.now (before.done mid) (ran.ran clean);
    }

pub returns-in_err-run-clause-stopped : goal.returns-in_err-run-clause-stopped
returns-in_err-run-clause-stopped g c clean inside =
    let before = c.loop-statement.invariant in
    let ran = c.in_err-run.ensures in
    let mid : HasCleanDisk (state g.S.Store c.loop-statement.tx.conn.now) =
    omega (arith, ran.leaves.survives.clean, clean) in
    let done = before.done mid in
    let p = err_from_is_err_and c.from_residual.result c.from_residual.ensures.1 in
    rw (p.1, p.2)
    (stops_with g.S.Store c.args.statements.now c.loop-statement.statement-index _ c.loop-statement-test.true
    c.args.tx.now.conn.now c.loop-statement.tx.conn.now c.run.new.tx.conn.now done c.in_err-run.field-0.0
    (ran.failed clean (done_inside g.S.Store _ c.args.tx.now.conn.now c.loop-statement.tx.conn.now inside done)))
