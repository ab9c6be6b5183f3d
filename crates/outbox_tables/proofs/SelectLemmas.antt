-- What a query of entries selects.
use Rattle.std.proofs.Common.{◌≡◌, ◌<◌, ℕ, pos, Bool, true, List, [], ◌∷◌, map, filter, refl, ap, subst, ◌∙◌, is_eq}
use Rattle.std.proofs.Common.{int_eq, nat_eq, bytes_eq, Less, IsPermutation, arith}
use Rattle.std.specs.List.{list_all}
use Rattle.std.specs.Bool.{one_answer}
use Rattle.std.proofs.lemmas.Int.{ints}
use Rattle.std.proofs.lemmas.Bool.Decides.{Decides-int_eq, Decides-eqb}
use Rattle.std.proofs.lemmas.Slice.Eq.{bytes_eq-Decides}
use Rattle.sqlite.specs.declared.types.Value.{Value}
use Rattle.sqlite.specs.Order.{Row, column}
use Rattle.sqlite.specs.Tree.{Trees}
use Rattle.sqlite.specs.Term.{Term, holds}
use Rattle.sqlite.specs.Query.{Query, Output, output, output_cmp}
use Rattle.sqlite.specs.Program.{overlay}
use Rattle.sqlite_sql.specs.Ops.{binary, is_true}
use Rattle.sqlite_sql.specs.Query.{IsSureAnswer}
use Rattle.sqlite_sql.specs.declared.ops.BinaryOp.TheVariants.{Compare}
use Rattle.sqlite_sql.specs.declared.ops.CompareOp.TheVariants.{Eq}
use Rattle.sqlite_value.specs.declared.keys.Collation.TheVariants.{Binary}
use Rattle.sqlite_value.proofs.OrderLemmas.{value_cmp-Int}
use Rattle.sqlite_trees.specs.Tree.{IsAscending}
use Rattle.sqlite_keyed.proofs.KeyedLemmas.{Less-from_lt, same_int}
use Rattle.sqlite_keyed.proofs.ListLemmas.{map-map, filter-map, filter_same, filter_all, all_of, ascending-filter}
use Rattle.sqlite_keyed.proofs.ListLemmas.{ascending-map, ascending_weaker}
use Rattle.sqlite_typed.specs.Tests.{bytes_cmp}
use Rattle.sqlite_typed.proofs.TestLemmas.{last_key, same_bytes, bytes_eq_refl}
use Rattle.filing_model.specs.Outbox.{Entry}
use Rattle.table_rows.specs.Rows.{shown}
use Rattle.table_rows.proofs.SelectLemmas.{one_table, selects_in_order}
use Rattle.outbox_tables.specs.Schema.{entry_table}
use Rattle.outbox_tables.specs.Entries.{numbered}
use Rattle.outbox_tables.specs.Rows.{entry_row, entry_rows}
use Rattle.outbox_tables.proofs.Texts.{entry_columns, by_id, entry_query}
use Rattle.outbox_tables.proofs.EntryLemmas.{rises}

-- ---- the tests of WHERE, on a row as it is shown

-- the column equals the value
abbrev pub matches : ℕ → Value → Row → Bool
matches at value w = list_all (λ (v : Value). is_true v) (binary (Compare Eq Binary) (column w at) value ∷ [])

pub same_words : (a b : List ℕ) → is_eq (bytes_cmp a b) ≡ bytes_eq a b
same_words a b =
    one_answer _ _ (λ h. same_bytes a b h, λ e. subst (λ l. is_eq (bytes_cmp a l) ≡ true) e (bytes_eq_refl a))
    (bytes_eq-Decides a b)

pub same_ids : (a b : ℕ) → int_eq (pos a) (pos b) ≡ nat_eq a b
same_ids a b =
    one_answer _ _ (
      λ h. let e = same_int (pos a) (pos b) h in
          cc,
      λ e. rw e ((Decides-int_eq (pos b) (pos b)).1 refl),
    ) (Decides-eqb a b)

-- ---- the entries that pass, in the order of their ids

abbrev pub sorted : List Term → List Term → Query
sorted test columns = one_table 1 test columns by_id

-- a row as it is sorted and told
abbrev pub told : (Row → Row) → Row → Output
told show w = (column w 0 ∷ [], show w)

in_order : (test columns : List Term) (show : Row → Row) (keep : Row → Bool) (es : List Entry)
    → IsAscending (λ x y. output_cmp (sorted test columns) x y ≡ Less) (map (told show) (filter keep (entry_rows es)))
in_order test columns show keep es =
    let R = λ (x y : Output). output_cmp (sorted test columns) x y ≡ Less in
    ascending-map R (told show) (filter keep (entry_rows es))
    (ascending-filter (λ a b. R (told show a) (told show b)) keep (entry_rows es)
    (ascending-map (λ a b. R (told show a) (told show b)) entry_row (numbered es)
    (ascending_weaker (λ (x y : ℕ × Entry). x.0 < y.0) _
    (λ x y low. last_key (value_cmp-Int (pos x.0) (pos y.0)
    ∙ Less-from_lt (pos x.0) (pos y.0) (grind (arith, ints)))) (numbered es) (rises 1 es))))

pub passing : (keep : Row → Bool) (p : ℕ × Entry → Bool) → ((x : ℕ × Entry) → keep (entry_row x) ≡ p x)
    → (es : List Entry) → filter keep (entry_rows es) ≡ map entry_row (filter p (numbered es))
passing keep p keeps es =
    filter-map keep entry_row (numbered es) ∙ ap (map entry_row) (filter_same _ p keeps (numbered es))

pub selected : (test columns : List Term) (show : Row → Row) (keep : Row → Bool) (p : ℕ × Entry → Bool)
    → ((x : ℕ × Entry) → keep (entry_row x) ≡ p x) → (es : List Entry) (trees : Trees) (params : Row) (rows : List Row)
    → IsPermutation (entry_rows es) (map (shown entry_table) (trees 1))
    → ((r : Row) → list_all (holds (params ∷ r ∷ [])) test ≡ keep (shown entry_table r))
    → ((r : Row) → output (sorted test columns) (params ∷ r ∷ []) ≡ told show (shown entry_table r))
    → IsSureAnswer (sorted test columns) (overlay trees []) params rows
    → rows ≡ map (λ x. show (entry_row x)) (filter p (numbered es))
selected test columns show keep p keeps es trees params rows held tests shows answer =
    selects_in_order 1 test columns by_id trees params rows answer (shown entry_table) (entry_rows es) held keep tests
    (told show) shows (in_order test columns show keep es)
    ∙ ap (map (λ (w : Row). (told show w).1)) (passing keep p keeps es)
    ∙ map-map (λ (w : Row). (told show w).1) entry_row (filter p (numbered es))

-- the five columns
abbrev pub whole : Row → Row
whole w = column w 0 ∷ column w 1 ∷ column w 2 ∷ column w 3 ∷ column w 4 ∷ []

-- the id alone
abbrev pub id_column : Row → Row
id_column w = column w 0 ∷ []

pub every : (es : List Entry) → filter (λ (x : ℕ × Entry). true) (numbered es) ≡ numbered es
every es = filter_all (λ x. true) (numbered es) (all_of (λ x. true ≡ true) (λ x. refl) (numbered es))

-- the rows of all
pub entries_selected : (es : List Entry) (trees : Trees) (rows : List Row)
    → IsPermutation (entry_rows es) (map (shown entry_table) (trees 1))
    → IsSureAnswer (entry_query []) (overlay trees []) [] rows → rows ≡ entry_rows es
entries_selected es trees rows held answer =
    selected [] entry_columns whole (λ r. true) (λ x. true) (λ x. refl) es trees [] rows held (λ r. refl) (λ r. refl)
    answer ∙ ap (map entry_row) (every es)
