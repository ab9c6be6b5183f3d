use Rattle.std.proofs.Common.{w64, pos, subst, ◌∙◌}
use Rattle.std.proofs.lemmas.Int.{to_z-of_z}
use Rattle.std.proofs.lemmas.Result.{IfOk-weaker}
use Rattle.sqlite.specs.Held.{state}
use Rattle.table_rows.specs.Reading.{ReadsRows}
use Rattle.register_rows.specs.Schema.{amends_table}
use Rattle.register_store.specs.Found.{has_seq, unsorted, target_alone}
use Rattle.register_store.proofs.ListLemmas.{knows_all}
use Rattle.register_store.proofs.FindLemmas.{target_read}
use Rattle.table_rows.proofs.OutcomeLemmas.{concluded}
use Rattle.register_extracts.proofs.kept.target_at.Goals as goal

pub returns-clause-found : goal.returns-clause-found
returns-clause-found g c clean e F was n k seq placed =
    let old = state g.S.Store c.args.conn.now in
    let new = state g.S.Store c.target_rows_at.new.conn in
    let read : ReadsRows amends_table (has_seq (pos n)) unsorted target_alone c.in_ok-rows.rows.items old new =
    subst (λ s. ReadsRows amends_table (has_seq s) unsorted target_alone c.in_ok-rows.rows.items old new)
    (to_z-of_z w64 c.args.seq c.ranges.seq ∙ seq) (c.in_ok-rows.ensures.read clean (knows_all F old was)) in
    IfOk-weaker c.read_target.result _ _ (λ found h. h n k.request.target (c.deref.ensures.value
    ∙ target_read F old new c.in_ok-rows.rows.items was n k placed read)) c.read_target.ensures

pub returns-clause-leaves : goal.returns-clause-leaves
returns-clause-leaves g c = concluded c.read_target.result c.in_ok-rows.ensures.leaves
