-- What the look-ups on entries select.
use Rattle.std.proofs.Common.{◌≡◌, ℕ, pos, Bool, true, false, List, [], ◌∷◌, map, filter, find, slice_get, Option}
use Rattle.std.proofs.Common.{Result, option_map, IfOk, refl, sym, ap, ◌∙◌, int_eq, IsPermutation}
use Rattle.std.specs.List.{list_all}
use Rattle.std.proofs.lemmas.Option.{slice_get-map}
use Rattle.std.proofs.lemmas.Result.{IfOk-weaker}
use Rattle.sqlite.specs.declared.types.Value.TheVariants.{Int, Text}
use Rattle.sqlite.specs.declared.error.Error.{Error}
use Rattle.sqlite.specs.Order.{Row, column}
use Rattle.sqlite.specs.Tree.{Trees}
use Rattle.sqlite.specs.Schema.{Schema}
use Rattle.sqlite.specs.Term.{Term, holds}
use Rattle.sqlite.specs.Query.{output}
use Rattle.sqlite.specs.Program.{overlay}
use Rattle.sqlite.specs.Effect.{Database}
use Rattle.sqlite.specs.State.{State, QueriesRow}
use Rattle.sqlite_sql.specs.Query.{IsSureAnswer}
use Rattle.sqlite_sql.specs.declared.ops.CompareOp.TheVariants.{Eq}
use Rattle.sqlite_keyed.proofs.ListLemmas.{slice_get-filter}
use Rattle.sqlite_typed.proofs.TestLemmas.{at_ints, at_texts, last_term}
use Rattle.filing_model.specs.Outbox.{Entry, Open, Confirmed, Refused, Clashed}
use Rattle.table_rows.specs.Rows.{shown, row_or_none}
use Rattle.table_rows.specs.Standing.{HasCommitted}
use Rattle.table_rows.proofs.QueryLemmas.{Asks, first_told}
use Rattle.outbox_tables.specs.Schema.{entry_table, IsDeclared}
use Rattle.outbox_tables.specs.Entries.{Contents, numbered}
use Rattle.outbox_core.specs.Entries.{has_id, has_text, is_open, is_open_state}
use Rattle.outbox_tables.specs.Rows.{IsOutboxOf, code_of, entry_row, entry_rows}
use Rattle.outbox_core.specs.Rows.{state_row}
use Rattle.outbox_core.proofs.Texts.{state_terms, states_query}
use Rattle.outbox_tables.proofs.SelectLemmas.{matches, same_words, same_ids, sorted, told, selected, every}

pub key_matches : (key : List ℕ) (x : ℕ × Entry) → matches 1 (Text key) (entry_row x) ≡ has_text key x
key_matches key x = last_term (at_texts false Eq x.1.key key ∙ same_words x.1.key key)

pub id_matches : (id : ℕ) (x : ℕ × Entry) → matches 0 (Int (pos id)) (entry_row x) ≡ has_id id x
id_matches id x = last_term (at_ints false Eq (pos x.0) (pos id) ∙ same_ids x.0 id)

open_is : (e : Entry) → int_eq (pos (code_of e.state)) (pos 0) ≡ is_open_state e.state
open_is e =
    elim e.state as (λ s. int_eq (pos (code_of s)) (pos 0) ≡ is_open_state s)
    [ Open ↦ refl | Confirmed n ↦ refl | Refused ↦ refl | Clashed ↦ refl ]

pub open_matches : (x : ℕ × Entry) → matches 3 (Int (pos 0)) (entry_row x) ≡ is_open x
open_matches x = last_term (at_ints false Eq (pos (code_of x.1.state)) (pos 0) ∙ open_is x.1)

-- the state alone, and its number
abbrev pub bare_state_columns : Row → Row
bare_state_columns w = column w 3 ∷ column w 4 ∷ []

-- without the key and the body
abbrev pub state_columns : Row → Row
state_columns w = column w 0 ∷ column w 3 ∷ column w 4 ∷ []

-- the states of all
pub states_selected : (es : List Entry) (trees : Trees) (rows : List Row)
    → IsPermutation (entry_rows es) (map (shown entry_table) (trees 1))
    → IsSureAnswer states_query (overlay trees []) [] rows
    → rows ≡ map state_row (numbered es)
states_selected es trees rows held answer =
    selected [] state_terms state_columns (λ r. true) (λ x. true) (λ x. refl) es trees [] rows held (λ r. refl)
    (λ r. refl) answer ∙ ap (map state_row) (every es)

-- ---- the first of them

module _ (sql : List ℕ) (test columns : List Term) (asks : (schema : Schema) → IsDeclared schema
    → Asks schema sql (sorted test columns)) (params : Row) (old new : State) (it : Contents)
    (was : HasCommitted (IsOutboxOf it) old) where
  asked : (db : Database) → IsOutboxOf it db → Asks db.schema sql (sorted test columns)
  asked db o = asks db.schema o.rows.declared

  pub row_selected : (show : Row → Row) → ((r : Row)
      → output (sorted test columns) (params ∷ r ∷ []) ≡ told show (shown entry_table r))
      → (keep : Row → Bool) (p : ℕ × Entry → Bool)
      → ((x : ℕ × Entry) → keep (entry_row x) ≡ p x)
      → ((r : Row) → list_all (holds (params ∷ r ∷ [])) test ≡ keep (shown entry_table r))
      → (r : Result (Option Row) Error) → QueriesRow sql params old new (row_or_none r)
      → IfOk r (λ row. row ≡ option_map (λ x. show (entry_row x)) (find p (numbered it.entries)))
  row_selected show shows keep p keeps tests r h =
      let row_of = λ (x : ℕ × Entry). show (entry_row x) in
      IfOk-weaker r _ _ (λ row found.
      let rows =
      selected test columns show keep p keeps it.entries old.now.trees params found.0 found.1.stood.rows.entries_are
      tests shows found.1.answer in
      sym found.2 ∙ ap (λ (l : List Row). slice_get l 0) rows ∙ slice_get-map row_of (filter p (numbered it.entries)) 0
      ∙ ap (option_map row_of) (slice_get-filter p (numbered it.entries)))
      (first_told (IsOutboxOf it) sql (sorted test columns) asked params old new was r h)
