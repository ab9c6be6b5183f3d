-- Values of fields that are read again as they were written.
use Rattle.std.proofs.Common.{◌≡◌, ℕ, ◌^◌, ◌<◌, Bool, true, false, ◌==◌, List, [], ◌∷◌, reverse, map, refl, ap, ◌∙◌}
use Rattle.std.proofs.Common.{arith}
use Rattle.std.specs.Prelude.{IsTrue, not, ◌&&◌}
use Rattle.std.specs.Char.{is_ascii_digit}
use Rattle.std.specs.Fmt.{decimal}
use Rattle.std.specs.List.{list_all}
use Rattle.std.specs.Str.Parse.{digits_value}
use Rattle.std.proofs.lemmas.Bool.Decides.{nat_tests}
use Rattle.std.proofs.lemmas.Grind.{common_steps}
use Rattle.std.proofs.lemmas.List.Elements.{All-head, All-weaker}
use Rattle.std.proofs.lemmas.List.Splits.{slice_split_none}
use Rattle.std.proofs.lemmas.List.Sums.{AllPass-from_list_all}
use Rattle.std.proofs.lemmas.Str.Parse.{numerals_by_value, tells_all_ascii_digits}
use Rattle.std.proofs.lemmas.Fmt.{decimal_is_IsNumeral, digits_decimal, decimal_nonempty}
use Rattle.httparse.specs.Ascii.{comma, space}
use Rattle.httparse.specs.Grammar.{AllPass, is_ows, is_value_byte, skip_ows, trim_ows}
use Rattle.httparse.proofs.TrimLemmas.{trim_ows_space, AllPass-reverse}
use Rattle.http_messages.specs.Head.{comma_parts, is_number}

-- a byte that is neither white space nor a comma
abbrev pub is_solid : ℕ → Bool
is_solid b = not (is_ows b) && not (b == comma)

skip_ows-solid : (text : List ℕ) → AllPass is_solid text → skip_ows text ≡ text
skip_ows-solid [] all = refl
skip_ows-solid (b ∷ text) all =
    let first : is_solid b ≡ true = All-head (λ x. IsTrue (is_solid x)) b text all in
    let is : is_ows b ≡ false = grind (arith, nat_tests, first) in
    rw is refl

-- of such bytes none is trimmed
pub trim_ows-solid : (text : List ℕ) → AllPass is_solid text → trim_ows text ≡ text
unfolding trim_ows
trim_ows-solid text all =
    ap (λ t. reverse (skip_ows (reverse t))) (skip_ows-solid text all)
    ∙ ap reverse (skip_ows-solid (reverse text) (AllPass-reverse is_solid text all)) ∙ grind (arith, common_steps)

pub trim_ows-field : (text : List ℕ) → AllPass is_solid text → trim_ows (space ∷ text) ≡ text
trim_ows-field text all =
    trim_ows_space text (skip_ows-solid text all) (skip_ows-solid (reverse text) (AllPass-reverse is_solid text all))

solid-no_comma : (b : ℕ) → IsTrue (is_solid b) → (b == comma) ≡ false
solid-no_comma b is = grind (arith, nat_tests, is)

-- and they are one part
pub comma_parts-solid : (text : List ℕ) → AllPass is_solid text → comma_parts text ≡ text ∷ []
comma_parts-solid text all =
    ap (map trim_ows) (slice_split_none (λ b. b == comma) text
    (All-weaker (λ b. IsTrue (is_solid b)) (λ b. (b == comma) ≡ false) solid-no_comma text all))
    ∙ ap (λ t. t ∷ []) (trim_ows-solid text all)

-- ---- numbers

digit-solid : (b : ℕ) → IsTrue (is_ascii_digit b) → IsTrue (is_solid b)
digit-solid b is = grind (arith, nat_tests, is)

digit-value : (b : ℕ) → IsTrue (is_ascii_digit b) → IsTrue (is_value_byte b)
digit-value b is = grind (arith, nat_tests, is)

module _ (n : ℕ) (small : n < 2 ^ 64) where
  decimal-list : list_all is_ascii_digit (decimal n) ≡ true
  decimal-list = digits_decimal (numerals_by_value _ tells_all_ascii_digits) n small

  -- what is written of a number is digits
  pub decimal-digits : AllPass is_ascii_digit (decimal n)
  decimal-digits = AllPass-from_list_all is_ascii_digit (decimal n) decimal-list

  pub decimal-solid : AllPass is_solid (decimal n)
  decimal-solid =
      All-weaker (λ b. IsTrue (is_ascii_digit b)) (λ b. IsTrue (is_solid b)) digit-solid (decimal n) decimal-digits

  pub decimal-value : AllPass is_value_byte (decimal n)
  decimal-value =
      All-weaker (λ b. IsTrue (is_ascii_digit b)) (λ b. IsTrue (is_value_byte b)) digit-value (decimal n) decimal-digits

  pub decimal-number : is_number (decimal n) ≡ true
  decimal-number = let some = decimal_nonempty n small in rw decimal-list (grind (arith, nat_tests, some))

  pub decimal-read : digits_value 10 (decimal n) ≡ n
  decimal-read = (decimal_is_IsNumeral n small).1
