use Rattle.std.proofs.Common.{pos, subst, w64, ◌∙◌}
use Rattle.std.proofs.lemmas.Int.{to_z-of_z}
use Rattle.std.proofs.lemmas.Result.{IfOk-weaker}
use Rattle.sqlite.specs.Held.{state}
use Rattle.table_rows.specs.Reading.{ReadsRows}
use Rattle.register_rows.specs.Schema.{received_table}
use Rattle.register_store.specs.Found.{has_seq, unsorted}
use Rattle.register_store.specs.Moments.{moment_in}
use Rattle.register_store.proofs.ListLemmas.{knows_all}
use Rattle.register_extracts.specs.Reading.{moment_alone}
use Rattle.register_extracts.proofs.Places.{moment_read, moment_within}
use Rattle.register_extracts.proofs.at.moment_in_row.Goals as goal

pub returns-clause-found : goal.returns-clause-found
returns-clause-found g c clean e F was moments one_each dated place seq =
    let old = state g.S.Store c.args.conn.now in
    let new = state g.S.Store c.rows_at.new.conn in
    let rows = c.in_ok-rows.rows.items in
    let read : ReadsRows received_table (has_seq (pos place)) unsorted moment_alone rows old new =
    subst (λ s. ReadsRows received_table (has_seq s) unsorted moment_alone rows old new)
    (to_z-of_z w64 c.args.seq c.ranges.seq ∙ seq) (c.in_ok-rows.ensures.read clean (knows_all F old was)) in
    IfOk-weaker c.read_moment.result _ _ (λ moment h. h (moment_in moments place)
    (moment_within moments old new rows dated place read)
    (c.deref.ensures.value ∙ moment_read moments old new rows dated place read)) c.read_moment.ensures
