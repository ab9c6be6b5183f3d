use Rattle.std.proofs.Common.{w64, pos, sym, ◌∙◌, arith}
use Rattle.std.proofs.lemmas.Int.{to_z-of_z}
use Rattle.std.proofs.lemmas.Result.{IfOk-weaker}
use Rattle.sqlite.specs.Held.{state}
use Rattle.filing_model.specs.Register.{kept}
use Rattle.filing_model.proofs.Keeping.{register_numbered}
use Rattle.register_tables.proofs.Calls.{refuses}
use Rattle.table_rows.proofs.LeavingLemmas.{ended, none_yet}
use Rattle.table_rows.specs.Leaving.Ending.{Asked}
use Rattle.register_store.proofs.ReplaceLemmas.{none_filed, one_filed}
use Rattle.register_store.proofs.select.replaceable.has_filing.Goals as goal

pub returns-in_ok-in_column-in-Some-clause-found : goal.returns-in_ok-in_column-in-Some-clause-found
returns-in_ok-in_column-in-Some-clause-found g c clean e F was is =
    let there = rw c.in-Some.is at (c.place_of.ensures F is) in
    let seq = c.in_ok-in_column-in-Some.ensures in
    IfOk-weaker c.is_filers.result _ _ (λ so h. h
    ∙ sym (one_filed c.args.filer.now c.args.number 1 1 c.in-Some.place (kept F) there.0 (register_numbered F)
    there.1 there.2))
    (c.is_filers.ensures.found clean e F was c.in-Some.place there.0
    (rw seq.0 (to_z-of_z w64 (pos c.in-Some.place) (record { sfits = omega (arith, seq.1) }))) there.1)

pub returns-in_ok-is_filers-in-None-clause-found : goal.returns-in_ok-is_filers-in-None-clause-found
returns-in_ok-is_filers-in-None-clause-found g c clean e F was is =
    let none = rw c.in-None.is at (c.place_of.ensures F is) in
    sym (none_filed c.args.filer.now c.args.number 1 (kept F) none)

pub returns-in_err-in_column-in-Some-clause-leaves : goal.returns-in_err-in_column-in-Some-clause-leaves
returns-in_err-in_column-in-Some-clause-leaves g c =
    refuses Asked c.from_residual.result c.from_residual.ensures.0 (ended (none_yet (state g.S.Store c.args.conn.now)))
