-- Rows that begin with those of a list.
use Rattle.std.proofs.Common.{◌≡◌, ℕ, ◌+◌, ◌<◌, ◌≤◌, zero, suc, List, [], ◌∷◌, ◌++◌, take, length, length-append}
use Rattle.std.proofs.Common.{get_or, refl, sym, ap, ap₂, ◌∙◌, arith}
use Rattle.std.proofs.lemmas.List.{take_more}
use Rattle.sqlite.specs.Order.{Row}
use Rattle.table_rows.specs.Rows.{counted_from}
use Rattle.table_rows.proofs.StepLemmas.{counted_more}

module _ {X : Type 0} (row : ℕ → X → Row) (rows : List Row) (xs : List X) where
  pub begins_more : (i : ℕ) (d : Row) (e : X) → i < length rows → i < length xs
      → take i rows ≡ counted_from row 1 (take i xs) → get_or rows i d ≡ row (i + 1) (get_or xs i e)
      → take (i + 1) rows ≡ counted_from row 1 (take (i + 1) xs)
  begins_more i d e low below same is =
      let next : row (i + 1) (get_or xs i e) ≡ row (1 + i) (get_or xs i e) =
      ap (λ n. row n (get_or xs i e)) (omega arith) in
      take_more rows i d low ∙ ap₂ (λ front r. front ++ r ∷ []) same (is ∙ next) ∙ sym (counted_more row xs i e below)

row_at : {X : Type 0} (row : ℕ → X → Row) (at : ℕ) (xs : List X) (tail : List Row) (i : ℕ) (d : Row) (e : X)
    → i < length xs → get_or (counted_from row at xs ++ tail) i d ≡ row (at + i) (get_or xs i e)
row_at row at [] tail i d e below = absurd (omega arith)
row_at row at (x ∷ xs) tail zero d e below = ap (λ n. row n x) (omega arith)
row_at row at (x ∷ xs) tail (suc i) d e below =
    row_at row (at + 1) xs tail i d e (omega arith) ∙ ap (λ n. row n (get_or xs i e)) (omega arith)

pub length_counted : {X : Type 0} (row : ℕ → X → Row) (at : ℕ) (xs : List X)
    → length (counted_from row at xs) ≡ length xs
length_counted row at [] = refl
length_counted row at (x ∷ xs) = ap suc (length_counted row (at + 1) xs)

module _ {X : Type 0} (row : ℕ → X → Row) (rows : List Row) (xs : List X) (tail : List Row)
    (is : rows ≡ counted_from row 1 xs ++ tail) where
  -- where they begin so, each of them does
  pub begun_at : (i : ℕ) (d : Row) (e : X) → i < length xs → get_or rows i d ≡ row (i + 1) (get_or xs i e)
  begun_at i d e below =
      ap (λ l. get_or l i d) is ∙ row_at row 1 xs tail i d e below ∙ ap (λ n. row n (get_or xs i e)) (omega arith)

  pub begun_long : length xs ≤ length rows
  begun_long = let total = ap length is ∙ length-append (counted_from row 1 xs) tail in let same =
      length_counted row 1 xs in omega (arith, total, same)
