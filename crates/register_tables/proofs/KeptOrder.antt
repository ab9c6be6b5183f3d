-- Kept rows have one order.
use Rattle.std.proofs.Common.{◌≡◌, ◌<◌, ℕ, ◌+◌, Bool, true, false, not, List, [], ◌∷◌, filter, refl, sym, ap, ap₂}
use Rattle.std.proofs.Common.{subst, ◌∙◌, arith, IsPermutation}
use Rattle.std.specs.List.{AllByRecursion}
use Rattle.std.proofs.lemmas.List.Sorted.{IsPermutation-sym, IsPermutation-trans, length_permutation}
use Rattle.sqlite.specs.Order.{Row}
use Rattle.sqlite.specs.Effect.{Database}
use Rattle.sqlite.proofs.Callers.{one_permutation}
use Rattle.sqlite_keyed.proofs.ListLemmas.{all_weaker, filter_all, filter_none, IsPermutation-filter}
use Rattle.filing_model.specs.Request.{Request, firsts}
use Rattle.filing_model.specs.Register.{Kept, kept}
use Rattle.table_rows.specs.Picking.{has_number}
use Rattle.table_rows.specs.Rows.{TableHas, counted_from}
use Rattle.register_rows.specs.Register.{kept_row, amends_rows, joined_from}
use Rattle.register_rows.specs.Schema.{kept_table}
use Rattle.register_rows.proofs.StepsOfTargets.{same_requests}
use Rattle.register_tables.specs.Walk.{AreAllOf}
use Rattle.register_tables.proofs.WalkRows.{higher_apart, itself, kept_number}

module _ (at : ℕ) where
  pub later : (m : ℕ) (ks : List Kept) → at < m → AllByRecursion (λ r. has_number at r ≡ false)
      (counted_from kept_row m ks)
  later m [] low = tt
  later m (k ∷ ks) low = (kept_number at m k ∙ higher_apart at m low, later (m + 1) ks (omega (arith, low)))

  abbrev others : Row → Bool
  others r = not (has_number at r)

  pub first_of : (k : Kept) (ks : List Kept) → filter (has_number at) (counted_from kept_row at (k ∷ ks))
      ≡ kept_row at k ∷ []
  first_of k ks =
      rw (kept_number at at k ∙ itself at) (ap (λ l. kept_row at k ∷ l)
      (filter_none (has_number at) (counted_from kept_row (at + 1) ks) (later (at + 1) ks (omega arith))))

  rest_of : (k : Kept) (ks : List Kept) → filter others (counted_from kept_row at (k ∷ ks))
      ≡ counted_from kept_row (at + 1) ks
  rest_of k ks =
      rw (kept_number at at k ∙ itself at)
      (filter_all others (counted_from kept_row (at + 1) ks)
      (all_weaker (λ r. has_number at r ≡ false) (λ r. others r ≡ true) (λ r h. ap not h)
      (counted_from kept_row (at + 1) ks) (later (at + 1) ks (omega arith))))

one_order : (at : ℕ) (ks js : List Kept) → IsPermutation (counted_from kept_row at ks) (counted_from kept_row at js)
    → counted_from kept_row at js ≡ counted_from kept_row at ks
one_order at [] [] same = refl
one_order at [] (j ∷ js) same = absurd (omega (arith, length_permutation _ _ same))
one_order at (k ∷ ks) [] same = absurd (omega (arith, length_permutation _ _ same))
one_order at (k ∷ ks) (j ∷ js) same =
    let K = counted_from kept_row at (k ∷ ks) in
    let J = counted_from kept_row at (j ∷ js) in
    let front : IsPermutation (kept_row at k ∷ []) (filter (has_number at) J) =
    subst (λ l. IsPermutation l (filter (has_number at) J)) (first_of at k ks)
    (IsPermutation-filter (has_number at) K J same) in
    let behind : IsPermutation (counted_from kept_row (at + 1) ks) (filter (others at) J) =
    subst (λ l. IsPermutation l (filter (others at) J)) (rest_of at k ks)
    (IsPermutation-filter (others at) K J same) in
    let one : kept_row at j ∷ [] ≡ kept_row at k ∷ [] =
    sym (first_of at j js) ∙ one_permutation (kept_row at k) (filter (has_number at) J) front in
    let more =
    one_order (at + 1) ks js (subst (IsPermutation (counted_from kept_row (at + 1) ks)) (rest_of at j js) behind) in
    let same_row : kept_row at j ≡ kept_row at k = cc in
    ap₂ (λ r l. r ∷ l) same_row more

-- it stands for no others
pub only_these : (F : List Request) (amends : List Row) (db : Database) → AreAllOf F amends db → (G : List Request)
    → firsts G ≡ G → TableHas db kept_table (counted_from kept_row 1 (kept G))
    → amends ≡ joined_from amends_rows 1 (kept G) → F ≡ G
only_these F amends db are G distinct held targets =
    let same = one_order 1 (kept G) (kept F) (IsPermutation-trans _ _ _ held (IsPermutation-sym _ _ are.kept_is)) in
    same_requests F G are.distinct distinct same (sym are.amends_is ∙ targets)
