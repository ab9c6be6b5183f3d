-- Rows that rise by whole numbers.
use Rattle.std.proofs.Common.{◌≡◌, ℕ, ◌+◌, ◌<◌, pos, Bool, true, false, List, [], ◌∷◌, map, length, get_or, Some, Less}
use Rattle.std.proofs.Common.{refl, sym, ap, ◌∙◌, arith, int_cmp, nat_eq}
use Rattle.std.specs.Prelude.{bytes_eq}
use Rattle.std.specs.Ordering.{is_eq}
use Rattle.std.proofs.lemmas.Map.Text.{is_eq-slice_cmp}
use Rattle.std.proofs.lemmas.Bool.Decides.{nat_tests}
pub use Rattle.std.proofs.Math.Bool.{and-true as and_true}
use Rattle.sqlite.specs.Collation.TheVariants.{Binary}
use Rattle.sqlite.specs.Ops.{binary, is_true, from_truth}
use Rattle.sqlite_sql.specs.declared.ops.BinaryOp.TheVariants.{Compare}
use Rattle.sqlite_sql.specs.declared.ops.CompareOp.TheVariants.{Eq}
use Rattle.std.specs.List.{AllByRecursion}
use Rattle.std.proofs.lemmas.Int.{ints}
use Rattle.sqlite.specs.declared.types.Value.TheVariants.{Int, Text}
use Rattle.sqlite.specs.Order.{Row}
use Rattle.sqlite_sql.specs.Query.{key_cmp}
use Rattle.sqlite_value.proofs.OrderLemmas.{value_cmp-Int, value_cmp-Text}
use Rattle.sqlite_keyed.proofs.KeyedLemmas.{Less-from_lt}
use Rattle.sqlite_typed.proofs.TestLemmas.{last_key}
use Rattle.table_rows.specs.Rows.{counted_from}
use Rattle.table_rows.specs.Reading.{ascending, RisesBy}

pub int_less : (m n : ℕ) → m < n → key_cmp 0 (ascending ∷ []) (Int (pos m) ∷ []) (Int (pos n) ∷ []) ≡ Less
int_less m n h = last_key (value_cmp-Int (pos m) (pos n)) ∙ Less-from_lt (pos m) (pos n) (grind (arith, ints))

module _ {X : Type 0} (row : ℕ → X → Row) (sort : Row → Row) (sorts : (at : ℕ) (x : X)
    → sort (row at x) ≡ Int (pos at) ∷ []) where
  abbrev Before : Row → Row → Type 0
  Before a b = key_cmp 0 (map (λ _. ascending) (sort a)) (sort a) (sort b) ≡ Less

  counted_after : (m : ℕ) (y : X) (at : ℕ) (xs : List X)
      → m < at → AllByRecursion (Before (row m y)) (counted_from row at xs)
  counted_after m y at [] h = tt
  counted_after m y at (x ∷ xs) h =
      (rw (sorts m y, sorts at x) (int_less m at h), counted_after m y (at + 1) xs (omega arith))

  -- rows that are counted rise by their count
  pub counted_rise : (at : ℕ) (xs : List X) → RisesBy sort (counted_from row at xs)
  counted_rise at [] = tt
  counted_rise at (x ∷ xs) = (counted_after at x (at + 1) xs (omega arith), counted_rise (at + 1) xs)

-- ---- two values that SQL finds equal

truth_of : (b : Bool) → is_true (from_truth (Some b)) ≡ b
truth_of true = refl
truth_of false = refl

-- two texts where their bytes are
pub same_text : (a b : List ℕ) → is_true (binary (Compare Eq Binary) (Text a) (Text b)) ≡ bytes_eq a b
unfolding binary
same_text a b = truth_of _ ∙ ap is_eq (value_cmp-Text a b) ∙ is_eq-slice_cmp a b

-- two whole numbers where they are the same
pub same_number : (m n : ℕ) → is_true (binary (Compare Eq Binary) (Int (pos m)) (Int (pos n))) ≡ nat_eq m n
unfolding binary
same_number m n = truth_of _ ∙ ap is_eq (value_cmp-Int (pos m) (pos n)) ∙ by_numbers
  where
    by_numbers : is_eq (int_cmp (pos m) (pos n)) ≡ nat_eq m n
    by_numbers = grind (arith, ints, nat_tests)

-- a lower number is another
pub lower_apart : (n m : ℕ) → m < n → nat_eq m n ≡ false
lower_apart n m low = grind (arith, nat_tests, low)

-- one row alone
pub one_row : (rows : List Row) (row : Row) → length rows ≡ 1 → row ≡ get_or rows 0 row → rows ≡ row ∷ []
one_row [] row one is = absurd (omega (arith, one))
one_row (x ∷ []) row one is = ap (λ r. r ∷ []) (sym is)
one_row (x ∷ y ∷ rows) row one is = absurd (omega (arith, one))
