use Rattle.std.proofs.Common.{w64, pos, map, ap, subst, ◌∙◌}
use Rattle.std.proofs.lemmas.Int.{to_z-of_z}
use Rattle.std.proofs.lemmas.Result.{IfOk-weaker}
use Rattle.sqlite.specs.Held.{state}
use Rattle.table_rows.specs.Reading.{ReadsRows}
use Rattle.register_rows.specs.Schema.{finding_table}
use Rattle.register_tables.specs.Reads.{by_second}
use Rattle.register_store.specs.Found.{finding_in, has_seq, pair_in}
use Rattle.register_store.proofs.ListLemmas.{knows}
use Rattle.register_store.proofs.FindLemmas.{findings_read}
use Rattle.table_rows.proofs.OutcomeLemmas.{concluded}
use Rattle.register_store.proofs.select.found.findings_at.Goals as goal

pub returns-clause-found : goal.returns-clause-found
returns-clause-found g c clean e F was n k seq placed =
    let old = state g.S.Store c.args.conn.now in
    let new = state g.S.Store c.rows_of_findings.new.conn in
    let read : ReadsRows finding_table (has_seq (pos n)) by_second pair_in c.in_ok-rows.rows.items old new =
    subst (λ s. ReadsRows finding_table (has_seq s) by_second pair_in c.in_ok-rows.rows.items old new)
    (to_z-of_z w64 c.args.seq c.ranges.seq ∙ seq) (c.in_ok-rows.ensures.read clean (knows F old was)) in
    IfOk-weaker c.read_findings.result _ _ (λ found h. h ∙ ap (map finding_in) c.deref.ensures.value
    ∙ findings_read F old new c.in_ok-rows.rows.items was n k placed read) c.read_findings.ensures

pub returns-clause-leaves : goal.returns-clause-leaves
returns-clause-leaves g c = concluded c.read_findings.result c.in_ok-rows.ensures.leaves
