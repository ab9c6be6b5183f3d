use Rattle.std.proofs.Common.{◌≡◌, ℤ, pos, subst, arith, w64, to_z, [], ◌∷◌, refl}
use Rattle.std.proofs.lemmas.Int.{ints}
use Rattle.sqlite.specs.declared.types.Value.TheVariants.{Int}
use Rattle.sqlite.specs.Held.{state}
use Rattle.sqlite.specs.State.{QueriesRow}
use Rattle.table_rows.specs.Rows.{row_or_none}
use Rattle.outbox_core.specs.Entries.{has_id}
use Rattle.outbox_tables.proofs.Texts.{equals, entry_columns}
use Rattle.outbox_tables.proofs.SelectLemmas.{whole, matches}
use Rattle.outbox_core.proofs.SelectLemmas.{id_matches, row_selected}
use Rattle.outbox_core.proofs.Texts.{by_id_text, by_id_asks, by_id_reads}
use Rattle.outbox_core.proofs.rows.entry_with_id.Goals as goal

pub first_row-requires : goal.first_row-requires
first_row-requires g c = by_id_reads

pub returns-clause-found : goal.returns-clause-found
returns-clause-found g c clean it was =
    let old = state g.S.Store c.args.conn.now in
    let new = state g.S.Store c.first_row.new.conn in
    let id : to_z w64 c.args.id ≡ pos c.args.id = omega (arith, ints) in
    let ran =
    subst (λ (n : ℤ). QueriesRow by_id_text (Int n ∷ []) old new (row_or_none c.first_row.result)) id
    (rw c.params-to_sql.ensures at (c.first_row.ensures.row clean)) in
    row_selected by_id_text (equals 0) entry_columns by_id_asks _ old new it was whole
    (λ r. refl) (matches 0 (Int (pos c.args.id))) (has_id c.args.id) (id_matches c.args.id) (λ r. refl)
    c.first_row.result ran
