use Rattle.std.proofs.Common.{arith}
use Rattle.std.proofs.lemmas.Result.{IfOk-weaker}
use Rattle.sqlite.specs.Held.{state}
use Rattle.sqlite.specs.State.{HasCleanDisk}
use Rattle.table_rows.proofs.InsideLemmas.{writes_then}
use Rattle.outbox_core.proofs.InsertLemmas.{adds_alone, adds_both}
use Rattle.outbox_core.proofs.write.write_entry.Goals as goal

pub returns-in-Some-clause-adds : goal.returns-in-Some-clause-adds
returns-in-Some-clause-adds g c clean =
    let first = state g.S.Store c.args.tx.now.conn.now in
    let mid = state g.S.Store c.insert_entry.new.tx.conn.now in
    let last = state g.S.Store c.insert_target.new.tx.conn.now in
    let was_clean : HasCleanDisk mid = omega (arith, c.insert_target.ensures.leaves.survives.clean) in
    rw c.in-Some.is (IfOk-weaker c.insert_target.result _ _
    (λ _ two. adds_both c.args.id c.args.key.now c.args.body.now c.in-Some.number first mid last
    (c.in_ok-insert_entry.ensures.gains was_clean) two) (c.insert_target.ensures.gains clean))

pub returns-in-None-clause-adds : goal.returns-in-None-clause-adds
returns-in-None-clause-adds g c clean =
    rw c.in-None.is (adds_alone c.args.id c.args.key.now c.args.body.now (state g.S.Store c.args.tx.now.conn.now)
    (state g.S.Store c.insert_entry.new.tx.conn.now) (c.in_ok-insert_entry.ensures.gains clean))

pub returns-in-Some-clause-leaves : goal.returns-in-Some-clause-leaves
returns-in-Some-clause-leaves g c = writes_then c.insert_entry.ensures.leaves c.insert_target.ensures.leaves
