-- Numbers that words write.
use Rattle.std.proofs.Common.{◌≡◌, ℕ, ◌<◌, ◌≤◌, ◌^◌, ◌-◌, Bool, true, false, List, length, nat_le, Option, Some, None}
use Rattle.std.proofs.Common.{refl, subst, leb-true, arith}
use Rattle.std.specs.Prelude.{option_and_then, if◌then◌else◌}
use Rattle.std.specs.Str.Parse.{digits_value}
use Rattle.std.proofs.lemmas.Bool.Decides.{nat_tests}
use Rattle.http_messages.specs.Posting.{IsTarget}
use Rattle.event_script.specs.Words.{number_up_to, number, filing_number}

-- a word that writes none, or too large a number, gives none
pub number_up_to-none : (greatest : ℕ) (word : List ℕ) → greatest < 2 ^ 64
    → ¬ ((0 < length word) × (digits_value 10 word < 2 ^ 64)) → number_up_to greatest word ≡ None
unfolding number_up_to
number_up_to-none greatest word small none =
    let too_much : (0 < length word) → (digits_value 10 word ≤ greatest) → ⊥ = λ some fits. none (some, omega arith) in
    grind (arith, nat_tests, too_much)

-- and a number that is read is not too large
pub number_up_to-small : (greatest : ℕ) (word : List ℕ) (n : ℕ) → number_up_to greatest word ≡ Some n → n ≤ greatest
unfolding number_up_to
number_up_to-small greatest word n is = grind (arith, nat_tests, is)

by_test : (word : List ℕ) (k n : ℕ) (b : Bool) → nat_le 1 k ≡ b → number word ≡ Some k
    → (if b then Some k else None) ≡ Some n → IsTarget (Some n)
by_test word k n true one is same =
    let small = number_up_to-small (2 ^ 63 - 1) word k is in
    let it : k ≡ n = cc in
    subst (λ m. IsTarget (Some m)) it (leb-true 1 k one, omega (arith, small))
by_test word k n false one is same = absurd (cc)

-- the number of a filing is one that may be replaced
pub filing_number-fits : (word : List ℕ) (n : ℕ) → filing_number word ≡ Some n → IsTarget (Some n)
filing_number-fits word n same = by_number (number word) refl same
  where
    by_number : (read : Option ℕ) → number word ≡ read
        → option_and_then (λ k. if nat_le 1 k then Some k else None) read ≡ Some n → IsTarget (Some n)
    by_number (Some k) is same = by_test word k n (nat_le 1 k) refl is same
    by_number None is same = absurd (cc)
