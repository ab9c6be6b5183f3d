-- The parts of a text round a byte.
use Rattle.std.proofs.Common.{◌≡◌, ℕ, ◌+◌, Bool, false, List, [], ◌∷◌, length, refl, arith}
use Rattle.std.specs.List.{slice_split, position_or_len, after_first, count_by, list_any}
use Rattle.std.proofs.lemmas.List.Folds.{list_any_none}
use Rattle.std.proofs.lemmas.List.Elements.{All-from_get_or}
use Rattle.std.proofs.lemmas.List.Sums.{fails_before_first}
use Rattle.std.proofs.lemmas.List.Splits.{slice_split_none, length-slice_split}
use Rattle.std.proofs.lemmas.Grind.{common_steps}

-- where nothing passes, the whole is the one part, and nothing stands behind it
pub slice_split-alone : (p : ℕ → Bool) (xs : List ℕ) → position_or_len p xs ≡ length xs → slice_split p xs ≡ xs ∷ []
slice_split-alone p xs none =
    slice_split_none p xs (All-from_get_or (λ x. p x ≡ false) xs 0 (λ k low. fails_before_first p xs k 0 (omega arith)))

pub after_first-alone : (p : ℕ → Bool) (xs : List ℕ) → position_or_len p xs ≡ length xs → after_first p xs ≡ []
after_first-alone p xs none = rw none (grind (arith, common_steps))

-- there is a part
pub slice_split-some : (p : ℕ → Bool) (xs : List ℕ)
    → (first : List ℕ) × (others : List (List ℕ)) × (slice_split p xs ≡ first ∷ others)
slice_split-some p xs = some (slice_split p xs) (length-slice_split p xs)
  where
    some : (parts : List (List ℕ)) → length parts ≡ count_by p xs + 1
        → (first : List ℕ) × (others : List (List ℕ)) × (parts ≡ first ∷ others)
    some [] few = absurd (omega (arith, few))
    some (first ∷ others) few = (first, others, refl)

-- none passes
pub list_any-alone : (p : ℕ → Bool) (xs : List ℕ) → position_or_len p xs ≡ length xs → list_any p xs ≡ false
list_any-alone p xs none =
    list_any_none p xs (All-from_get_or (λ x. p x ≡ false) xs 0 (λ k low. fails_before_first p xs k 0 (omega arith)))
