-- The number of a filing that a path has: it is the decimal text of itself.
use Rattle.std.proofs.Common.{◌≡◌, ◌≢◌, ℕ, zero, suc, ◌<◌, ◌≤◌, ◌^◌, ◌⊎◌, true, false, ◌&&◌, List, length, get_or}
use Rattle.std.proofs.Common.{nat_le, nat_lt, leb-true, ltb-true, le-leb, lt-ltb, Some, None, Result, Ok, Err, refl}
use Rattle.std.proofs.Common.{sym, subst, ap, ◌∙◌, inl, inr, ⊎_elim, arith}
use Rattle.std.specs.Prelude.{bytes_eq, slice_index}
use Rattle.std.specs.Char.{is_ascii_digit}
use Rattle.std.specs.Fmt.{decimal}
use Rattle.std.specs.List.{list_all}
use Rattle.std.specs.Result.{OkIff}
use Rattle.std.specs.Str.Parse.{digits_value, ParsesUnsigned}
use Rattle.std.proofs.lemmas.Bool.{cases_Bool, and_parts, true≢false}
use Rattle.std.proofs.lemmas.Bool.Decides.{nat_tests}
use Rattle.std.proofs.lemmas.Fmt.{decimal_digit, decimal_nonempty, first_decimal, decimal-digits_value}
use Rattle.std.proofs.lemmas.List.Sums.{list_all-from_AllPass}
use Rattle.std.proofs.lemmas.Slice.Eq.{bytes_eq-Decides}
use Rattle.std.proofs.lemmas.Str.Parse.{parse_digits}
use Rattle.http_messages.proofs.DigitLemmas.{decimal_numerals}
use Rattle.http_messages.proofs.ValueLemmas.{decimal-digits}
use Rattle.filing_model.specs.Text.{target_in}
use Rattle.gateway_requests.specs.Path.{is_decimal}

first_of_zero : (text : List ℕ) → decimal 0 ≡ text → slice_index text 0 ≡ 48
first_of_zero text is = subst (λ t. slice_index t 0 ≡ 48) (sym (decimal_digit 0 (omega arith)) ∙ is) refl

above_zero : (text : List ℕ) (n : ℕ) → decimal n ≡ text → slice_index text 0 ≢ 48 → 1 ≤ n
above_zero text zero is other = absurd (other (first_of_zero text is))
above_zero text (suc n) is other = omega arith

module _ (text : List ℕ) (is : is_decimal text ≡ true) where
  pub some : 0 < length text
  some = grind (arith, nat_tests, is)

  other : slice_index text 0 ≢ 48
  other = grind (arith, nat_tests, is)

  pub all : list_all is_ascii_digit text ≡ true
  all = grind (arith, nat_tests, is)

  spelled : digits_value 10 text < 2 ^ 63 → decimal (digits_value 10 text) ≡ text
  spelled small =
      decimal-digits_value decimal_numerals text all some (λ first. absurd (other (first_is first)))
      (omega (arith, small))
    where
      first_is : get_or text 0 0 ≡ 48 → slice_index text 0 ≡ 48
      first_is h = h

  -- digits that don't begin with 0 are one, where their value is not too large
  pub number-read : digits_value 10 text < 2 ^ 63 → target_in text ≡ Some (digits_value 10 text)
  number-read small =
      let same : bytes_eq text (decimal (digits_value 10 text)) ≡ true =
      (bytes_eq-Decides text (decimal (digits_value 10 text))).1 (sym (spelled small)) in
      rw (same, le-leb 1 (digits_value 10 text) (pub_above small), lt-ltb (digits_value 10 text) (2 ^ 63) small) refl
    where
      pub_above : digits_value 10 text < 2 ^ 63 → 1 ≤ digits_value 10 text
      pub_above h = above_zero text (digits_value 10 text) (spelled h) other

  pub number-above : digits_value 10 text < 2 ^ 63 → 1 ≤ digits_value 10 text
  number-above small = above_zero text (digits_value 10 text) (spelled small) other

decimal-is : (n : ℕ) → 1 ≤ n → n < 2 ^ 63 → is_decimal (decimal n) ≡ true
decimal-is n low high =
    let small : n < 2 ^ 64 = omega (arith, high) in
    let nonempty = decimal_nonempty n small in
    let first : 48 < slice_index (decimal n) 0 = first_decimal n low small in
    let all = list_all-from_AllPass is_ascii_digit (decimal n) (decimal-digits n small) in
    rw all (grind (arith, nat_tests, nonempty, first))

-- another text has none
pub number-none : (text : List ℕ) → (is_decimal text ≡ false) ⊎ (2 ^ 63 ≤ digits_value 10 text) → target_in text ≡ None
number-none text not_one = ⊎_elim
    (λ (h : (bytes_eq text (decimal n) && (nat_le 1 n && nat_lt n (2 ^ 63))) ≡ true).
    let parts = and_parts _ _ h in
    let range = and_parts _ _ parts.1 in
    let same = (bytes_eq-Decides text (decimal n)).0 parts.0 in
    let small = ltb-true n (2 ^ 63) range.1 in
    absurd (against not_one (subst (λ t. is_decimal t ≡ true) (sym same) (decimal-is n (leb-true 1 n range.0) small))
    small))
    (λ (h : (bytes_eq text (decimal n) && (nat_le 1 n && nat_lt n (2 ^ 63))) ≡ false). rw h refl)
    (cases_Bool (bytes_eq text (decimal n) && (nat_le 1 n && nat_lt n (2 ^ 63))))
  where
    n : ℕ
    n = digits_value 10 text

    against : (is_decimal text ≡ false) ⊎ (2 ^ 63 ≤ n) → is_decimal text ≡ true → n < 2 ^ 63 → ⊥
    against (inl wrong) right small = true≢false (sym right ∙ wrong)
    against (inr large) right small = omega (arith, large, small)

-- what `parse` makes of such a text
module _ {E : Type 0} (text read : List ℕ) (same : read ≡ text) (is : is_decimal text ≡ true) (r : Result ℕ E)
    (parsed : ParsesUnsigned 64 10 read r) where
  parses : OkIff r ((0 < length read) × (digits_value 10 read < 2 ^ 64)) (digits_value 10 read)
  parses = parse_digits decimal_numerals 64 read r parsed
      (subst (λ t. list_all is_ascii_digit t ≡ true) (sym same) (all text is))

  pub value_is : (n : ℕ) → r ≡ Ok n → n ≡ digits_value 10 text
  value_is n gives = let it : ((0 < length read) × (digits_value 10 read < 2 ^ 64)) × (n ≡ digits_value 10 read) =
      rw gives at parses in it.1 ∙ ap (digits_value 10) same

  pub large_is : (e : E) → r ≡ Err e → 2 ^ 63 ≤ digits_value 10 text
  large_is e gives = ⊎_elim
      (λ (h : nat_lt (digits_value 10 text) (2 ^ 63) ≡ true).
      let none : ¬ ((0 < length read) × (digits_value 10 read < 2 ^ 64)) = rw gives at parses in
      let small = ltb-true (digits_value 10 text) (2 ^ 63) h in
      absurd (none (
        subst (λ t. 0 < length t) (sym same) (some text is),
        subst (λ t. digits_value 10 t < 2 ^ 64) (sym same) (omega (arith, small)),
      )))
      (λ (h : nat_lt (digits_value 10 text) (2 ^ 63) ≡ false). grind (arith, nat_tests, h))
      (cases_Bool (nat_lt (digits_value 10 text) (2 ^ 63)))
