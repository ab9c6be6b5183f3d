-- A SELECT over one table reads its rows.
use Rattle.std.proofs.Common.{◌≡◌, ℕ, Bool, List, [], ◌∷◌, map, IsTrue, Less, refl, subst}
use Rattle.std.specs.List.{list_all, AllByRecursion}
use Rattle.sqlite.specs.Order.{Row}
use Rattle.sqlite.specs.Term.{Term, eval_all, holds}
use Rattle.sqlite.specs.Table.{Table}
use Rattle.sqlite.specs.Schema.{Schema}
use Rattle.sqlite.specs.Query.{Output}
use Rattle.sqlite_sql.specs.Query.{key_cmp}
use Rattle.sqlite_value.specs.declared.keys.Key.{Key}
use Rattle.sqlite_trees.specs.Tree.{IsAscending}
use Rattle.sqlite.specs.State.{State, Shown, IsUnchanged}
use Rattle.sqlite.specs.Listing.{understood}
use Rattle.sqlite.proofs.Callers.{IsPlain, reads_as}
use Rattle.sqlite_keyed.proofs.ListLemmas.{ascending-map}
use Rattle.table_rows.specs.Rows.{shown}
use Rattle.table_rows.specs.Tables.{BeginsWith}
use Rattle.table_rows.specs.Reading.{ascending, RisesBy, ReadsRows}
use Rattle.table_rows.proofs.SelectLemmas.{one_table, selects, selects_in_order}
use Rattle.table_rows.proofs.StandLemmas.{shown_keeps}
use Rattle.table_rows.proofs.QueryLemmas.{Asks}

-- the terms are sorted by, each ascending
abbrev pub by_each : List Term → List (Term × Key)
by_each terms = map (λ t. (t, ascending)) terms

module _ (ours : List Table) (table : Table) (sql : List ℕ) (test project order : List Term)
    (asks : (schema : Schema) → BeginsWith ours schema
    → Asks schema sql (one_table table.tree test project (by_each order)))
    (params : Row) (old new : State) (known : IsTrue old.is_open → BeginsWith ours old.now.schema)
    (keep : Row → Bool) (keep_is : (r : Row) → list_all (holds (params ∷ r ∷ [])) test ≡ keep (shown table r))
    (sort : Row → Row) (sort_is : (r : Row) → eval_all (map (λ k. k.0) (by_each order)) (params ∷ r ∷ [])
    ≡ sort (shown table r))
    (show : Row → Row) (show_is : (r : Row) → eval_all project (params ∷ r ∷ []) ≡ show (shown table r))
    (sorts : (w : Row) → map (λ _. ascending) (sort w) ≡ map (λ k. k.1) (by_each order)) where
  plain : IsTrue old.is_open → IsPlain (understood old.now.schema sql)
  plain alive = (asks old.now.schema (known alive)).plain

  abbrev told : Row → Output
  told w = (sort w, show w)

  told_is : (r : Row) → ◌≡◌ {A = Output} (
    eval_all (map (λ k. k.0) (by_each order)) (params ∷ r ∷ []),
    eval_all project (params ∷ r ∷ []),
  ) (told (shown table r))
  told_is r = λ i. (sort_is r i, show_is r i)

  rising : (ws : List Row) → RisesBy sort ws
      → IsAscending (λ (x y : Output). key_cmp 0 (map (λ k. k.1) (by_each order)) x.0 y.0 ≡ Less) (map told ws)
  rising ws rises =
      ascending-map (λ (x y : Output). key_cmp 0 (map (λ k. k.1) (by_each order)) x.0 y.0 ≡ Less) told ws
      (alike ws rises)
    where
      all_alike : (w : Row) (vs : List Row)
          → AllByRecursion (λ v. key_cmp 0 (map (λ _. ascending) (sort w)) (sort w) (sort v) ≡ Less) vs
          → AllByRecursion (λ v. key_cmp 0 (map (λ k. k.1) (by_each order)) (sort w) (sort v) ≡ Less) vs
      all_alike w vs h = subst (λ keys. AllByRecursion (λ v. key_cmp 0 keys (sort w) (sort v) ≡ Less) vs) (sorts w) h

      alike : (vs : List Row) → RisesBy sort vs
          → IsAscending (λ a b. key_cmp 0 (map (λ k. k.1) (by_each order)) (sort a) (sort b) ≡ Less) vs
      alike [] h = tt
      alike (v ∷ vs) h = (all_alike v vs h.0, alike vs h.1)

  pub reads_rows : (rows : List Row) → Shown sql params old new rows → ReadsRows table keep sort show rows old new
  reads_rows rows h =
      let same : IsUnchanged old new = shown_keeps sql params old new plain rows h in
      let it = asks old.now.schema (known same.0.was_open) in
      let answer = (reads_as sql params old new old.now.schema refl _ it.is it.plain it.listing rows h).answer in
      record {
        same = same;
        any = λ wanted holds. selects table.tree test project (by_each order) old.now.trees params rows answer
            (shown table) wanted holds keep keep_is told told_is;
        ordered =
            λ wanted holds rises. selects_in_order table.tree test project (by_each order) old.now.trees params rows
            answer (shown table) wanted holds keep keep_is told told_is (rising _ rises);
      }
