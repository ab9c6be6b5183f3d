use Rattle.std.proofs.Common.{◌≡◌, ℤ, pos, subst, arith, w64, to_z, [], ◌∷◌}
use Rattle.std.proofs.lemmas.Int.{ints}
use Rattle.sqlite.specs.declared.types.Value.TheVariants.{Int}
use Rattle.sqlite.specs.Held.{state}
use Rattle.sqlite.specs.State.{QueriesRow}
use Rattle.table_rows.specs.Rows.{row_or_none}
use Rattle.outbox_core.proofs.Texts.{target_text, target_reads}
use Rattle.outbox_core.proofs.TargetReads.{target_selected}
use Rattle.outbox_core.proofs.rows.target_with_id.Goals as goal

pub first_row-requires : goal.first_row-requires
first_row-requires g c = target_reads

pub returns-clause-found : goal.returns-clause-found
returns-clause-found g c clean it was =
    let old = state g.S.Store c.args.conn.now in
    let new = state g.S.Store c.first_row.new.conn in
    let id : to_z w64 c.args.id ≡ pos c.args.id = omega (arith, ints) in
    let ran =
    subst (λ (n : ℤ). QueriesRow target_text (Int n ∷ []) old new (row_or_none c.first_row.result)) id
    (rw c.params-to_sql.ensures at (c.first_row.ensures.row clean)) in
    target_selected c.args.id old new it was c.first_row.result ran
