-- The head of a reply is read again.
use Rattle.std.proofs.Common.{◌≡◌, ◌≢◌, ℕ, ◌+◌, ◌<◌, ◌≤◌, Bool, true, false, List, [], ◌∷◌, length, refl, sym, ap, ap₂}
use Rattle.std.proofs.Common.{◌∙◌, arith, length-append, Option, Some, None, ◌==◌, ◌/◌, ◌%◌}
use Rattle.std.specs.Prelude.{IsSome, not, nat_lt, nat_le, ◌&&◌, ◌||◌, unwrap_or, if◌then◌else◌}
use Rattle.std.specs.Fmt.{decimal}
use Rattle.std.specs.List.{list_all}
use Rattle.std.proofs.lemmas.Bool.{and_parts}
use Rattle.std.proofs.lemmas.Bool.Decides.{nat_tests}
use Rattle.std.proofs.lemmas.Fmt.{decimal_digit, decimal_step}
use Rattle.std.proofs.lemmas.Option.{none-some, same_Some}
use Rattle.httparse.specs.Grammar.{is_value_byte}
use Rattle.http_messages.specs.Reply.{phrase, phrases, phrase_in}
use Rattle.http_messages.specs.Response.{is_interim}

-- ---- the statuses that have a phrase

three_digits : (n : ℕ) → 100 ≤ n → n < 1000 → length (decimal n) ≡ 3
three_digits n low high =
    let tens : (10 ≤ n / 10) × (n / 10 < 100) = (omega arith, omega arith) in
    let ones : n / 10 / 10 < 10 = omega arith in
    let first =
    ap length (decimal_step n (omega arith) (omega arith))
    ∙ length-append (decimal (n / 10)) ((48 + n % 10) ∷ []) in
    let second =
    ap length (decimal_step (n / 10) tens.0 (omega arith))
    ∙ length-append (decimal (n / 10 / 10)) ((48 + n / 10 % 10) ∷ []) in
    let third : length (decimal (n / 10 / 10)) ≡ 1 = ap length (decimal_digit (n / 10 / 10) ones) in
    omega (arith, first, second, third)

-- three digits, a phrase of plain bytes, and no interim response but 100
abbrev is_fit : ℕ → List ℕ → Bool
is_fit status text =
    nat_le 100 status && nat_lt status 1000 && list_all is_value_byte text && (status == 100 || not (is_interim status))
    && nat_le (length text) 31

phrase-cases : (same : Bool) (status own : ℕ) (text words : List ℕ) (entries : List (ℕ × List ℕ))
    → (own == status) ≡ same → is_fit own words ≡ true
    → ((phrase_in entries status ≡ Some text) → is_fit status text ≡ true)
    → (if same then Some words else phrase_in entries status) ≡ Some text → is_fit status text ≡ true
phrase-cases true status own text words entries t fit next e =
    let number : own ≡ status = grind (arith, nat_tests, t) in
    ap₂ is_fit (sym number) (sym (same_Some words text e)) ∙ fit
phrase-cases false status own text words entries t fit next e = next e

phrase_in-fit : (entries : List (ℕ × List ℕ)) (status : ℕ) (text : List ℕ)
    → list_all (λ entry. is_fit entry.0 entry.1) entries ≡ true → phrase_in entries status ≡ Some text
    → is_fit status text ≡ true
phrase_in-fit [] status text all e = absurd (none-some text e)
phrase_in-fit (entry ∷ entries) status text all e =
    let both = and_parts (is_fit entry.0 entry.1) (list_all (λ x. is_fit x.0 x.1) entries) all in
    phrase-cases (entry.0 == status) status entry.0 text entry.1 entries refl both.0
    (phrase_in-fit entries status text both.1) e

phrases-fit : list_all (λ entry. is_fit entry.0 entry.1) phrases ≡ true
phrases-fit = refl

-- what is known of such a status and its phrase
pub record IsFit (status : ℕ) (text : List ℕ) : Type 0 where
  pub low : 100 ≤ status
  pub high : status < 1000
  pub digits : length (decimal status) ≡ 3
  pub plain : list_all is_value_byte text ≡ true
  pub short : length text ≤ 31
  pub final : status ≢ 100 → is_interim status ≡ false

fit_facts : (status : ℕ) (text : List ℕ) → is_fit status text ≡ true → IsFit status text
fit_facts status text e =
    let low : 100 ≤ status = grind (arith, nat_tests, e) in
    let high : status < 1000 = grind (arith, nat_tests, e) in
    record {
      low = low;
      high = high;
      digits = three_digits status low high;
      plain = grind (arith, nat_tests, e);
      short = grind (arith, nat_tests, e);
      final = λ other. grind (arith, nat_tests, e, other);
    }

phrase-facts : (status : ℕ) (text : Option (List ℕ)) → phrase status ≡ text → IsSome text
    → IsFit status (unwrap_or text [])
unfolding phrase
phrase-facts status None e some = cc
phrase-facts status (Some text) e some = fit_facts status text (phrase_in-fit phrases status text phrases-fit e)

pub IsFit-of_phrase : (status : ℕ) → IsSome (phrase status) → IsFit status (unwrap_or (phrase status) [])
IsFit-of_phrase status some = phrase-facts status (phrase status) refl some
