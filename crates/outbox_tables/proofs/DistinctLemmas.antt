-- The keys of a table with a UNIQUE are distinct.
use Rattle.std.proofs.Common.{◌≡◌, ◌⊎◌, inl, inr, ◌<◌, ℕ, suc, pos, Bool, true, false, not, List, [], ◌∷◌, map}
use Rattle.std.proofs.Common.{bytes_eq, refl, sym, ap, subst, ◌∙◌, nat_eq, arith, true≢false}
use Rattle.std.proofs.lemmas.Bool.{not-true}
use Rattle.std.specs.Prelude.{◌&&◌}
use Rattle.std.specs.List.{AllByRecursion, list_all, list_any}
use Rattle.std.proofs.lemmas.Bool.Decides.{nat_tests}
use Rattle.std.proofs.lemmas.List.Elements.{recursion_from_All, All-from_recursion}
use Rattle.std.proofs.lemmas.List.Sorted.{All-permutation, IsPermutation-sym}
use Rattle.sqlite.specs.Order.{Row, column}
use Rattle.sqlite.specs.Schema.{Schema}
use Rattle.sqlite.specs.Effect.{Database, IsDatabase}
use Rattle.sqlite_catalog.specs.Listing.{automatic, IsGuarded}
use Rattle.sqlite_rules.specs.Lists.{Has}
use Rattle.sqlite_keyed.proofs.ListLemmas.{none_from_any, all_weaker, all_map}
use Rattle.sqlite_schema.specs.declared.schema.Index.{Index}
use Rattle.sqlite_schema.specs.declared.schema.Constraint.TheVariants.{Unique}
use Rattle.sqlite_schema.specs.Rules.{equal, differ, guards, clashes, passes}
use Rattle.sqlite_value.specs.Keys.{first_key}
use Rattle.sqlite_value.specs.declared.keys.Collation.TheVariants.{Binary}
use Rattle.sqlite.specs.declared.types.Value.TheVariants.{Int, Text}
use Rattle.sqlite_sql.specs.declared.ops.CompareOp.TheVariants.{Eq, Ne}
use Rattle.sqlite_typed.proofs.TestLemmas.{at_ints, at_texts}
use Rattle.filing_model.specs.Outbox.{Entry}
use Rattle.table_rows.specs.Tables.{schema_with}
use Rattle.table_rows.specs.Rows.{shown, TableHas}
use Rattle.outbox_tables.specs.Schema.{HasCommon, common_tables, entry_table}
use Rattle.outbox_tables.specs.Entries.{AreDistinct, numbered_from}
use Rattle.outbox_tables.specs.Rows.{entry_row, entry_rows}
use Rattle.outbox_tables.proofs.SelectLemmas.{same_ids, same_words}

-- the two rows have one key and not one id
abbrev clash : Row → Row → Bool
clash r other = (equal Binary (column other 1) (column r 1) && true) && differ (column other 0) (column r 0)

abbrev Apart : Row → Row → Type 0
Apart r other = clash r other ≡ false

has_all : {X : Type 0} (p : X → Bool) (xs : List X) (x : X) → list_all p xs ≡ true → Has xs x → p x ≡ true
has_all p [] x all has = absurd has
has_all p (y ∷ ys) x all has = go (p y) refl all has (has_all p ys x)
  where
    go : (b : Bool) → p y ≡ b → (b && list_all p ys) ≡ true → (x ≡ y) ⊎ Has ys x
        → (list_all p ys ≡ true → Has ys x → p x ≡ true) → p x ≡ true
    go true is all (inl same) more = ap p same ∙ is
    go true is all (inr later) more = more all later
    go false is all has more = absurd (true≢false (sym all))

module _ (db : Database) (sound : IsDatabase db) (d : HasCommon db.schema) where
  abbrev b : Schema
  b = schema_with common_tables d.tables d.indexes d.views

  -- no two rows of the table clash
  rows_apart : AllByRecursion (λ r. AllByRecursion (λ other. Apart (shown entry_table r) (shown entry_table other))
      (db.trees 1)) (db.trees 1)
  unfolding first_key
  rows_apart =
      let guarded : AllByRecursion (IsGuarded d.indexes) b.tables =
      subst (λ (s : Schema). AllByRecursion (IsGuarded s.indexes) s.tables) d.is sound.lists.guarded in
      let index = guarded.1.0 0 (2 ∷ []) refl in
      let unique : AllByRecursion (λ t. AllByRecursion (λ row. passes Unique b db.trees t row ≡ true) (db.trees t.tree))
      b.tables =
      subst (λ (s : Schema). AllByRecursion (λ t. AllByRecursion (λ row. passes Unique s db.trees t row ≡ true)
      (db.trees t.tree)) s.tables) d.is (sound.obeys.rules Unique) in
      all_weaker _ _ (λ row pass.
      let one =
      has_all (λ (i : Index). not (guards i entry_table && clashes i.order i.columns (db.trees 1) row)) d.indexes
      (automatic entry_table 0 (2 ∷ []) index.0) pass index.1 in
      let none : list_any (λ other. clash (shown entry_table row) (shown entry_table other)) (db.trees 1) ≡ false =
      not-true _ one in
      none_from_any (λ other. clash (shown entry_table row) (shown entry_table other)) (db.trees 1) none) (db.trees 1)
      unique.1.0

  permuted : (P : Row → Type 0) (xs ys : List Row) → AllByRecursion P (map (shown entry_table) xs)
      → TableHas db entry_table ys → xs ≡ db.trees 1 → AllByRecursion P ys
  permuted P xs ys all held same =
      recursion_from_All P ys (All-permutation P _ ys (IsPermutation-sym ys _ held)
      (All-from_recursion P _ (subst (λ l. AllByRecursion P (map (shown entry_table) l)) same all)))

  held_apart : (rows : List Row) → TableHas db entry_table rows
      → AllByRecursion (λ r. AllByRecursion (Apart r) rows) rows
  held_apart rows held =
      permuted (λ r. AllByRecursion (Apart r) rows) (db.trees 1) rows
      (all_map (λ r. AllByRecursion (Apart r) rows) (shown entry_table) (db.trees 1)
      (all_weaker _ _ (λ r each. permuted (Apart (shown entry_table r)) (db.trees 1) rows
      (all_map (Apart (shown entry_table r)) (shown entry_table) (db.trees 1) each) held refl) (db.trees 1)
      rows_apart))
      held refl

-- ---- so the entries have distinct keys

differs : (m n : ℕ) → n < m → differ (Int (pos m)) (Int (pos n)) ≡ true
differs m n low = let apart : nat_eq m n ≡ false = grind (arith, nat_tests) in
    at_ints false Ne (pos m) (pos n) ∙ ap not (same_ids m n ∙ apart)

same_text : (a b : List ℕ) → equal Binary (Text a) (Text b) ≡ bytes_eq a b
same_text a b = at_texts false Eq a b ∙ same_words a b

unequal : (e other : Entry) (m n : ℕ) → m < n → Apart (entry_row (m, e)) (entry_row (n, other))
    → bytes_eq other.key e.key ≡ false
unequal e other m n low apart =
    let ids : differ (column (entry_row (n, other)) 0) (column (entry_row (m, e)) 0) ≡ true = differs n m low in
    let text = same_text other.key e.key in
    last (bytes_eq other.key e.key) (rw (ids, text) at apart)
  where
    last : (x : Bool) → ((x && true) && true) ≡ false → x ≡ false
    last true h = absurd (true≢false h)
    last false h = refl

later : (e : Entry) (m n : ℕ) (es : List Entry) → m < n
    → AllByRecursion (Apart (entry_row (m, e))) (map entry_row (numbered_from n es))
    → AllByRecursion (λ (o : Entry). bytes_eq o.key e.key ≡ false) es
later e m n [] low all = tt
later e m n (o ∷ es) low all = (unequal e o m n low all.0, later e m (suc n) es (omega arith) all.1)

distinct_from : (n : ℕ) (es : List Entry)
    → AllByRecursion (λ r. AllByRecursion (Apart r) (map entry_row (numbered_from n es)))
    (map entry_row (numbered_from n es)) → AreDistinct es
distinct_from n [] all = tt
distinct_from n (e ∷ es) all = (
  later e n (suc n) es (omega arith) all.0.1,
  distinct_from (suc n) es (all_weaker _ _ (λ r each. each.1) (map entry_row (numbered_from (suc n) es)) all.1),
)

pub distinct_held : (db : Database) (es : List Entry) → IsDatabase db → HasCommon db.schema
    → TableHas db entry_table (entry_rows es) → AreDistinct es
distinct_held db es sound d held = distinct_from 1 es (held_apart db sound d (entry_rows es) held)
