use Rattle.std.proofs.Common.{arith}
use Rattle.std.proofs.lemmas.Result.{IfOk-weaker}
use Rattle.sqlite.specs.Held.{state}
use Rattle.sqlite.specs.State.{HasCleanDisk}
use Rattle.register_rows.specs.Outcomes.{outcome_of}
use Rattle.table_rows.proofs.InsideLemmas.{writes_then}
use Rattle.register_store.proofs.Adding.{adds_amends}
use Rattle.register_store.proofs.write.write_amendment.Goals as goal

pub returns-clause-adds : goal.returns-clause-adds
returns-clause-adds g c clean =
    let first = state g.S.Store c.args.tx.now.conn.now in
    let mid = state g.S.Store c.insert_amends.new.tx.conn.now in
    let last = state g.S.Store c.write_judged.new.tx.conn.now in
    let row = c.args.row.now in
    let was_clean : HasCleanDisk mid = omega (arith, c.write_judged.ensures.leaves.survives.clean) in
    let one = c.in_ok-insert_amends.ensures.gains was_clean in
    IfOk-weaker c.write_judged.result _ _ (λ _ two. adds_amends c.args.seq c.args.target row.moment.milliseconds
    row.filer.now row.key.now row.body.now (outcome_of c.args.number row.judged.now) first mid last one two)
    (c.write_judged.ensures.adds clean)

pub returns-clause-leaves : goal.returns-clause-leaves
returns-clause-leaves g c = writes_then c.insert_amends.ensures.leaves c.write_judged.ensures.leaves
