use Rattle.std.proofs.Common.{None, refl, arith}
use Rattle.std.proofs.lemmas.Result.{IfOk-weaker}
use Rattle.sqlite.specs.Held.{state}
use Rattle.sqlite.specs.State.{HasCleanDisk}
use Rattle.filing_model.specs.Views.{the_request}
use Rattle.table_rows.proofs.InsideLemmas.{writes_then}
use Rattle.register_store.proofs.Adding.{adds_accepted}
use Rattle.register_store.proofs.write.write_accepted.Goals as goal

pub returns-clause-adds : goal.returns-clause-adds
returns-clause-adds g c clean =
    let first = state g.S.Store c.args.tx.now.conn.now in
    let mid = state g.S.Store c.insert_kept.new.tx.conn.now in
    let dated = state g.S.Store c.insert_received.new.tx.conn.now in
    let next = state g.S.Store c.insert_filing.new.tx.conn.now in
    let last = state g.S.Store c.insert_items.new.tx.conn.now in
    let row = c.args.row.now in
    let late : HasCleanDisk next = omega (arith, c.insert_items.ensures.leaves.survives.clean) in
    let sooner : HasCleanDisk dated = omega (arith, c.insert_filing.ensures.leaves.survives.clean, late) in
    let was_clean : HasCleanDisk mid = omega (arith, c.insert_received.ensures.inserts.leaves.survives.clean, sooner) in
    let one = c.in_ok-insert_kept.ensures.inserts.gains was_clean in
    let two = c.in_ok-insert_received.ensures.inserts.gains sooner in
    let three = c.in_ok-insert_filing.ensures.gains late in
    IfOk-weaker c.insert_items.result _ _ (λ _ four. adds_accepted c.args.seq
    (the_request row.filer.now row.key.now None row.body.now) refl row.moment.milliseconds
    c.insert_received.ensures.within c.args.number first mid dated next last one two three
    (rw c.requires.facts at four))
    (c.insert_items.ensures.gains clean three.inside)

pub returns-in_err-insert_received-clause-leaves : goal.returns-in_err-insert_received-clause-leaves
returns-in_err-insert_received-clause-leaves g c =
    writes_then c.insert_kept.ensures.inserts.leaves c.insert_received.ensures.inserts.leaves

pub returns-in_err-insert_filing-clause-leaves : goal.returns-in_err-insert_filing-clause-leaves
returns-in_err-insert_filing-clause-leaves g c =
    writes_then (writes_then c.insert_kept.ensures.inserts.leaves c.insert_received.ensures.inserts.leaves)
    c.insert_filing.ensures.leaves

pub returns-clause-leaves : goal.returns-clause-leaves
returns-clause-leaves g c =
    writes_then (writes_then (writes_then c.insert_kept.ensures.inserts.leaves
    c.insert_received.ensures.inserts.leaves) c.insert_filing.ensures.leaves) c.insert_items.ensures.leaves
