-- What reading a whole table tells of it.
use Rattle.std.proofs.Common.{◌≡◌, ℕ, true, List, [], ◌∷◌, map, refl, ap, subst, ◌∙◌, IsPermutation}
use Rattle.std.proofs.lemmas.List.Sorted.{IsPermutation-refl, IsPermutation-sym}
use Rattle.sqlite.specs.Order.{Row, column}
use Rattle.sqlite.specs.Table.{Table}
use Rattle.sqlite.specs.Schema.{Schema}
use Rattle.sqlite.specs.Tree.{Trees}
use Rattle.sqlite.specs.Program.{overlay}
use Rattle.sqlite.specs.Query.{Output, output}
use Rattle.sqlite.specs.State.{State, Shown}
use Rattle.sqlite.specs.Term.{Term}
use Rattle.sqlite.proofs.Callers.{reads_as}
use Rattle.sqlite_sql.specs.Query.{IsSureAnswer}
use Rattle.sqlite_value.specs.declared.keys.Key.{Key}
use Rattle.sqlite_keyed.proofs.ListLemmas.{filter_all, all_of, map_same, map-map}
use Rattle.table_rows.specs.Rows.{shown, TableHas}
use Rattle.table_rows.proofs.SelectLemmas.{one_table, selects}
use Rattle.table_rows.proofs.QuestionLemmas.{asked}
use Rattle.outbox_tables.specs.Schema.{IsDeclared, HasCommon, meta_table, entry_table, target_table}
use Rattle.outbox_tables.specs.Audit.{meta_text, targets_text, entries_text}
use Rattle.outbox_tables.proofs.Texts.{meta_terms, asks_meta, target_terms, asks_targets, entry_columns, asks_entries}
use Rattle.outbox_tables.proofs.Texts.{by_id}

-- all rows, with all columns
whole : (table : Table) (tree : ℕ) (columns : List Term) (order : List (Term × Key)) (show : Row
    → Output) (trees : Trees) (rows : List Row)
    → ((r : Row) → output (one_table tree [] columns order) ([] ∷ r ∷ []) ≡ show (shown table r))
    → ((r : Row) → (show (shown table r)).1 ≡ shown table r)
    → IsSureAnswer (one_table tree [] columns order) (overlay trees []) [] rows
    → IsPermutation rows (map (shown table) (trees tree))
whole table tree columns order show trees rows shows same answer =
    let all = map (shown table) (trees tree) in
    let some =
    selects tree [] columns order trees [] rows answer (shown table) all (IsPermutation-refl all) (λ r. true)
    (λ r. refl) show shows in
    let every = filter_all (λ (r : Row). true) all (all_of (λ (r : Row). true ≡ true) (λ r. refl) all) in
    let told : map (λ w. (show w).1) all ≡ all =
    map-map (λ w. (show w).1) (shown table) (trees tree) ∙ map_same _ (shown table) same (trees tree) in
    IsPermutation-sym _ _ (subst (λ l. IsPermutation l rows) (ap (map (λ w. (show w).1)) every ∙ told) some)

module _ (old new : State) (d : HasCommon old.now.schema) (rows : List Row) where
  pub meta_held : Shown meta_text [] old new rows → TableHas old.now meta_table rows
  meta_held h =
      let it = asked asks_meta old.now.schema d in
      let answer = (reads_as meta_text [] old new old.now.schema refl _ it.is it.plain it.listing rows h).answer in
      whole meta_table 0 meta_terms [] (λ w. ([], column w 0 ∷ column w 1 ∷ column w 2 ∷ column w 3 ∷ [])) old.now.trees
      rows (λ r. refl) (λ r. refl) answer

  pub entries_held : Shown entries_text [] old new rows → TableHas old.now entry_table rows
  entries_held h =
      let it = asked asks_entries old.now.schema d in
      let answer = (reads_as entries_text [] old new old.now.schema refl _ it.is it.plain it.listing rows h).answer in
      whole entry_table 1 entry_columns by_id (λ w. (
        column w 0 ∷ [],
        column w 0 ∷ column w 1 ∷ column w 2 ∷ column w 3 ∷ column w 4 ∷ [],
      )) old.now.trees rows (λ r. refl)
      (λ r. refl) answer

module _ (old new : State) (d : IsDeclared old.now.schema) (rows : List Row) where
  pub targets_held : Shown targets_text [] old new rows → TableHas old.now target_table rows
  targets_held h =
      let it = asked asks_targets old.now.schema d.begins in
      let answer = (reads_as targets_text [] old new old.now.schema refl _ it.is it.plain it.listing rows h).answer in
      whole target_table 3 target_terms [] (λ w. ([], column w 0 ∷ column w 1 ∷ [])) old.now.trees rows (λ r. refl)
      (λ r. refl) answer

-- the tables of an outbox begin with those of every form
pub has_common : (schema : Schema) → IsDeclared schema → HasCommon schema
has_common schema d =
    record {
      tables = target_table ∷ d.begins.tables;
      indexes = d.begins.indexes;
      views = d.begins.views;
      is =
          d.begins.is;
    }
