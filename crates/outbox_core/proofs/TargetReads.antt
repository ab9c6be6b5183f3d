-- What the query of a target tells.
use Rattle.std.proofs.Common.{◌≡◌, ℕ, suc, pos, false, arith, List, [], ◌∷◌, ◌++◌, map, filter, slice_get, Option, Some}
use Rattle.std.proofs.Common.{None, option_map, Result, IfOk, IsPermutation, refl, sym, ap, subst, ◌∙◌}
use Rattle.std.proofs.lemmas.Result.{IfOk-weaker}
use Rattle.std.proofs.lemmas.List.Sorted.{length_permutation}
use Rattle.sqlite.specs.declared.types.Value.TheVariants.{Int}
use Rattle.sqlite.specs.declared.error.Error.{Error}
use Rattle.sqlite.specs.Order.{Row, column}
use Rattle.sqlite.specs.Term.{col}
use Rattle.sqlite.specs.Effect.{Database}
use Rattle.sqlite.specs.State.{State, QueriesRow}
use Rattle.sqlite.proofs.Callers.{one_permutation}
use Rattle.sqlite_sql.specs.declared.ops.CompareOp.TheVariants.{Eq}
use Rattle.sqlite_typed.proofs.TestLemmas.{at_ints, last_term}
use Rattle.filing_model.specs.Outbox.{Entry}
use Rattle.table_rows.specs.Rows.{shown, row_or_none}
use Rattle.table_rows.specs.Standing.{HasCommitted}
use Rattle.table_rows.proofs.SelectLemmas.{selects}
use Rattle.table_rows.proofs.QueryLemmas.{Asks, first_told}
use Rattle.outbox_tables.specs.Schema.{target_table}
use Rattle.outbox_tables.specs.Entries.{Contents, target_at}
use Rattle.outbox_tables.specs.Rows.{IsOutboxOf, target_row, target_rows_from, target_rows}
use Rattle.outbox_tables.specs.Audit.{with_id}
use Rattle.outbox_tables.proofs.Texts.{equals}
use Rattle.outbox_core.proofs.Texts.{target_text, target_query, target_asks}
use Rattle.outbox_tables.proofs.SelectLemmas.{matches}
use Rattle.outbox_tables.proofs.TargetLemmas.{target_with}

-- the test of WHERE is that of the id
matching : (id n : ℕ) (es : List Entry) → filter (matches 0 (Int (pos id))) (target_rows_from n es)
    ≡ with_id id (target_rows_from n es)
matching id n [] = refl
matching id n (e ∷ es) = go e.target (matching id (suc n) es)
  where
    go : (o : Option ℕ) → filter (matches 0 (Int (pos id))) (target_rows_from (suc n) es)
        ≡ with_id id (target_rows_from (suc n) es)
        → filter (matches 0 (Int (pos id))) (target_row n o ++ target_rows_from (suc n) es)
        ≡ with_id id (target_row n o ++ target_rows_from (suc n) es)
    go None later = later
    go (Some k) later = rw (last_term (at_ints false Eq (pos n) (pos id)), later) refl

abbrev number_column : Row → Row
number_column w = column w 1 ∷ []

told_number : (id : ℕ) (o : Option ℕ) (rows : List Row) → IsPermutation (map number_column (target_row id o)) rows
    → slice_get rows 0 ≡ option_map (λ number. Int (pos number) ∷ []) o
told_number id None [] same = refl
told_number id None (r ∷ rows) same = absurd (omega (arith, length_permutation _ _ same))
told_number id (Some n) rows same = ap (λ (l : List Row). slice_get l 0) (one_permutation _ rows same)

module _ (id : ℕ) (old new : State) (it : Contents) (was : HasCommitted (IsOutboxOf it) old) where
  asked : (db : Database) → IsOutboxOf it db → Asks db.schema target_text target_query
  asked db o = target_asks db.schema o.rows.declared

  pub target_selected : (r : Result (Option Row) Error)
      → QueriesRow target_text (Int (pos id) ∷ []) old new (row_or_none r)
      → IfOk r (λ row. row ≡ option_map (λ number. Int (pos number) ∷ []) (target_at it.entries id))
  target_selected r h =
      IfOk-weaker r _ _ (λ row told.
      let picked =
      selects 3 (equals 0) (col 1 2 ∷ []) [] old.now.trees (Int (pos id) ∷ []) told.0 told.1.answer
      (shown target_table) (target_rows it.entries) told.1.stood.rows.targets_are
      (matches 0 (Int (pos id))) (λ r. refl) (λ w. ([], number_column w)) (λ r. refl) in
      sym told.2 ∙ told_number id (target_at it.entries id) told.0
      (subst (λ l. IsPermutation (map number_column l) told.0) (matching id 1 it.entries
      ∙ target_with id it.entries) picked))
      (first_told (IsOutboxOf it) target_text target_query asked (Int (pos id) ∷ []) old new was r h)

-- the number in the row that was read
pub number_read : (o : Option ℕ) (row : Row) (n : ℕ) → Some row ≡ option_map (λ number. Int (pos number) ∷ []) o
    → column row 0 ≡ Int (pos n) → Some n ≡ o
number_read None row n is at = cc
number_read (Some k) row n is at =
    let same : row ≡ Int (pos k) ∷ [] = cc in
    let both = rw same at at in
    cc

pub none_read : (o : Option ℕ) → ◌≡◌ {A = Option Row} None (option_map (λ number. Int (pos number) ∷ []) o) → None ≡ o
none_read None is = refl
none_read (Some k) is = cc
