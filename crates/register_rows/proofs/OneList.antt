-- A table has the moments of one list.
use Rattle.std.proofs.Common.{◌≡◌, ℕ, ◌+◌, ◌<◌, ◌⊎◌, inl, inr, ⊎_elim, List, [], ◌∷◌, length, refl, sym}
use Rattle.std.proofs.Common.{ap, ap₂, ◌∙◌, arith, subst, Option, IsPermutation}
use Rattle.std.specs.List.{AllByRecursion}
use Rattle.std.proofs.lemmas.List.Elements.{recursion_from_All, All-from_recursion}
use Rattle.std.proofs.lemmas.List.Sorted.{length_permutation, All-permutation, IsPermutation-trans, IsPermutation-sym}
use Rattle.sqlite.specs.Order.{Row}
use Rattle.sqlite.specs.Effect.{Database}
use Rattle.table_rows.specs.Rows.{counted_from}
use Rattle.register_rows.proofs.MomentLemmas.{length-all_moments, same_place, same_moment}
use Rattle.register_rows.proofs.SegmentLemmas.{length_counted}
use Rattle.register_rows.specs.Received.{received_row, received_rows, all_moments, Received}

-- the row is one of those that are counted from this place
abbrev IsAmong : ℕ → List ℕ → Row → Type 0
IsAmong at [] row = ⊥
IsAmong at (x ∷ xs) row = (row ≡ received_row at x) ⊎ IsAmong (at + 1) xs row

weaker : (at x : ℕ) (xs : List ℕ) (rows : List Row) → AllByRecursion (IsAmong (at + 1) xs) rows
    → AllByRecursion (IsAmong at (x ∷ xs)) rows
weaker at x xs [] h = tt
weaker at x xs (row ∷ rows) h = (inr h.0, weaker at x xs rows h.1)

all_among : (at : ℕ) (xs : List ℕ) → AllByRecursion (IsAmong at xs) (counted_from received_row at xs)
all_among at [] = tt
all_among at (x ∷ xs) = (inl refl, weaker at x xs (counted_from received_row (at + 1) xs) (all_among (at + 1) xs))

-- a row before them is none of them
not_among : (place x at : ℕ) (xs : List ℕ) → place < at → IsAmong at xs (received_row place x) → ⊥
not_among place x at [] h among = among
not_among place x at (y ∷ xs) h (inl same) = absurd (omega (arith, same_place place at x y same))
not_among place x at (y ∷ xs) h (inr among) = not_among place x (at + 1) xs (omega arith) among

-- rows behind the first are among the others
later : (at x : ℕ) (xs : List ℕ) (from : ℕ) (ys : List ℕ) → at < from
    → AllByRecursion (IsAmong at (x ∷ xs)) (counted_from received_row from ys)
    → AllByRecursion (IsAmong (at + 1) xs) (counted_from received_row from ys)
later at x xs from [] h all = tt
later at x xs from (y ∷ ys) h all =
    let rest = later at x xs (from + 1) ys (omega arith) all.1 in
    (⊎_elim (λ same. absurd (omega (arith, same_place from at y x same))) (λ among. among) all.0, rest)

one_by_one : (at : ℕ) (xs ys : List ℕ) → length xs ≡ length ys
    → AllByRecursion (IsAmong at xs) (counted_from received_row at ys) → xs ≡ ys
one_by_one at [] [] len all = refl
one_by_one at [] (y ∷ ys) len all = absurd (omega (arith, len))
one_by_one at (x ∷ xs) [] len all = absurd (omega (arith, len))
one_by_one at (x ∷ xs) (y ∷ ys) len all =
    let first : x ≡ y =
    ⊎_elim (λ same. sym (same_moment at at y x same))
    (λ among. absurd (not_among at y (at + 1) xs (omega arith) among)) all.0 in
    let rest = later at x xs (at + 1) ys (omega arith) all.1 in
    ap₂ (λ z zs. z ∷ zs) first (one_by_one (at + 1) xs ys (omega (arith, len)) rest)

-- rows in any order that are counted from one place are those of one list
counted_once : (at : ℕ) (xs ys : List ℕ)
    → IsPermutation (counted_from received_row at xs) (counted_from received_row at ys) → xs ≡ ys
counted_once at xs ys same =
    let as_many = length_permutation _ _ same in
    let mine = length_counted received_row at xs in
    let theirs = length_counted received_row at ys in
    one_by_one at xs ys (omega (arith, as_many, mine, theirs))
    (recursion_from_All (IsAmong at xs) _
    (All-permutation (IsAmong at xs) _ _ same (All-from_recursion (IsAmong at xs) _ (all_among at xs))))

pub one_list : (db : Database) (moments others : List (Option ℕ)) → length moments ≡ length others → Received db moments
    → Received db others → moments ≡ others
one_list db moments others len h k =
    let same = IsPermutation-trans _ _ _ h.rows (IsPermutation-sym _ _ k.rows) in
    let as_many = length_permutation _ _ same in
    let mine = length_counted received_row (h.undated + 1) h.dated in
    let theirs = length_counted received_row (k.undated + 1) k.dated in
    let all_mine = length-all_moments h.undated h.dated in
    let all_theirs = length-all_moments k.undated k.dated in
    let long : length moments ≡ length (all_moments h.undated h.dated) = ap length h.is in
    let as_long : length others ≡ length (all_moments k.undated k.dated) = ap length k.is in
    let front : k.undated ≡ h.undated =
    omega (arith, len, as_many, mine, theirs, all_mine, all_theirs, long, as_long) in
    let back : h.dated ≡ k.dated =
    counted_once (h.undated + 1) h.dated k.dated
    (subst (λ n. IsPermutation (received_rows h.undated h.dated) (received_rows n k.dated)) front same) in
    h.is ∙ ap₂ all_moments (sym front) back ∙ sym k.is
