-- Digits without leading zeros, and the numbers that they write.
use Rattle.std.proofs.Common.{◌≡◌, ℕ, ◌+◌, ◌*◌, ◌<◌, ◌≤◌, ◌==◌, eqb, ltb, Bool, true, false, ◌&&◌, List, [], ◌∷◌}
use Rattle.std.proofs.Common.{length, min, refl, sym, ap, ◌∙◌, Decides, arith, rules}
use Rattle.std.specs.Prelude.{bytes_eq}
use Rattle.std.specs.Char.{is_ascii_digit, digit_value}
use Rattle.std.specs.List.{list_all}
use Rattle.std.specs.Str.Parse.{digits_value, digits_value_after}
use Rattle.std.proofs.Math.Nat.{zero-add}
use Rattle.std.proofs.Math.Numerals.{one-add}
use Rattle.std.proofs.lemmas.List.Recursion.{same_from_clauses}
use Rattle.std.proofs.lemmas.Bool.Decides.{nat_tests, same_from_decides}
use Rattle.std.proofs.lemmas.Slice.Eq.{bytes_eq-Decides}
use Rattle.std.proofs.lemmas.Str.Parse.{IsNumeralModel, numerals_by_value}
use Rattle.http_messages.specs.Head.{is_number, agree}
use Rattle.http_messages.specs.Lists.{significant}

abbrev are_digits : List ℕ → Bool
are_digits = list_all is_ascii_digit

-- the digits and their value are those of `parse`
pub decimal_numerals : IsNumeralModel (λ ds. list_all is_ascii_digit ds ≡ true) (digits_value 10)
decimal_numerals = numerals_by_value _ (search rules)

-- the value of a digit
digit-small : (d : ℕ) → is_ascii_digit d ≡ true → (digit_value d < 10) × (digit_value d + 48 ≡ d)
digit-small d is = (grind (arith, nat_tests, is), grind (arith, nat_tests, is))

-- the first of the digits, and the others
digits-parts : (d : ℕ) (ds : List ℕ) → are_digits (d ∷ ds) ≡ true → (is_ascii_digit d ≡ true) × (are_digits ds ≡ true)
digits-parts d ds all = (grind (arith, all), grind (arith, all))

-- a zero in front counts for nothing
significant-step : (zero : Bool) (d : ℕ) (ds : List ℕ) → (d == 48) ≡ zero
    → digits_value 10 (significant ds) ≡ digits_value 10 ds
    → digits_value 10 (significant (d ∷ ds)) ≡ digits_value 10 (d ∷ ds)
significant-step true d ds t e =
    let is : d ≡ 48 = grind (arith, nat_tests, t) in
    rw (is, one-add) e
significant-step false d ds t e = rw t refl

-- leading zeros count for nothing
pub digits_value-significant : (ds : List ℕ) → digits_value 10 (significant ds) ≡ digits_value 10 ds
digits_value-significant [] = refl
digits_value-significant (d ∷ ds) = significant-step (d == 48) d ds refl (digits_value-significant ds)

-- digits of one length that write one number are the same, after any digits before them
value-same : (n m : ℕ) (xs ys : List ℕ) → are_digits xs ≡ true → are_digits ys ≡ true → length xs ≡ length ys
    → digits_value_after 10 n xs ≡ digits_value_after 10 m ys → (n ≡ m) × (xs ≡ ys)
value-same n m [] [] p q l e = (e, refl)
value-same n m [] (y ∷ ys) p q l e = absurd (omega (arith, l))
value-same n m (x ∷ xs) [] p q l e = absurd (omega (arith, l))
value-same n m (x ∷ xs) (y ∷ ys) p q l e =
    let px = digits-parts x xs p in
    let qy = digits-parts y ys q in
    let r = value-same (n * 10 + digit_value x) (m * 10 + digit_value y) xs ys px.1 qy.1 (omega (arith, l)) e in
    let dx = digit-small x px.0 in
    let dy = digit-small y qy.0 in
    (omega (arith, r.0, dx.0, dy.0), grind (arith, r.0, r.1, dx, dy))

-- digits after a number that isn't zero write more than as many digits alone
value-more : (n : ℕ) (xs ys : List ℕ) (same : Bool) → eqb (length xs) (length ys) ≡ same → are_digits xs ≡ true
    → are_digits ys ≡ true → 0 < n → length ys ≤ length xs → ¬ (digits_value_after 10 n xs ≡ digits_value 10 ys)
value-more n xs ys true t p q some long e = omega (arith, value-same n 0 xs ys p q (grind (arith, nat_tests, t)) e)
value-more n [] ys false t p q some long e = grind (arith, nat_tests, t, long)
value-more n (x ∷ xs) ys false t p q some long e =
    let px = digits-parts x xs p in
    value-more (n * 10 + digit_value x) xs ys (eqb (length xs) (length ys)) refl px.1 q (omega arith)
    (grind (arith, nat_tests, t, long)) e

-- the digits begin with no zero
abbrev begins_plain : List ℕ → Type 0
begins_plain [] = Unit {0}
begins_plain (d ∷ ds) = (d == 48) ≡ false

begins-step : (zero : Bool) (d : ℕ) (ds : List ℕ) → (d == 48) ≡ zero → begins_plain (significant ds)
    → begins_plain (significant (d ∷ ds))
begins-step true d ds t e = rw (t, one-add) e
begins-step false d ds t e = rw t t

significant-begins : (ds : List ℕ) → begins_plain (significant ds)
significant-begins [] = tt
significant-begins (d ∷ ds) = begins-step (d == 48) d ds refl (significant-begins ds)

are_digits-step : (zero : Bool) (d : ℕ) (ds : List ℕ) → (d == 48) ≡ zero → are_digits (d ∷ ds) ≡ true
    → are_digits (significant ds) ≡ true → are_digits (significant (d ∷ ds)) ≡ true
are_digits-step true d ds t all e = rw (t, one-add) e
are_digits-step false d ds t all e = rw t all

-- what is left of digits is digits
pub are_digits-significant : (ds : List ℕ) → are_digits ds ≡ true → are_digits (significant ds) ≡ true
are_digits-significant [] all = refl
are_digits-significant (d ∷ ds) all =
    are_digits-step (d == 48) d ds refl all (are_digits-significant ds (digits-parts d ds all).1)

-- a text whose first digit isn't zero writes more than a shorter one
value-longer : (d : ℕ) (ds ys : List ℕ) → are_digits (d ∷ ds) ≡ true → are_digits ys ≡ true → (d == 48) ≡ false
    → length ys ≤ length ds → ¬ (digits_value 10 (d ∷ ds) ≡ digits_value 10 ys)
value-longer d ds ys p q plain long e =
    let parts = digits-parts d ds p in
    let some : 0 < digit_value d = let small = digit-small d parts.0 in grind (arith, nat_tests, plain, small) in
    value-more (digit_value d) ds ys (eqb (length ds) (length ys)) refl parts.1 q some long (rw zero-add at e)

-- the same, by their lengths
by_length : (xs ys : List ℕ) (shorter longer : Bool) → ltb (length xs) (length ys) ≡ shorter
    → ltb (length ys) (length xs) ≡ longer → are_digits xs ≡ true → are_digits ys ≡ true → begins_plain xs
    → begins_plain ys → digits_value 10 xs ≡ digits_value 10 ys → xs ≡ ys
by_length xs [] true longer s l p q bx by e = grind (arith, nat_tests, s)
by_length xs (y ∷ ys) true longer s l p q bx by e =
    absurd (value-longer y ys xs q p by (grind (arith, nat_tests, s)) (sym e))
by_length [] ys false true s l p q bx by e = grind (arith, nat_tests, l)
by_length (x ∷ xs) ys false true s l p q bx by e = absurd (value-longer x xs ys p q bx (grind (arith, nat_tests, l)) e)
by_length xs ys false false s l p q bx by e = (value-same 0 0 xs ys p q (grind (arith, nat_tests, s, l)) e).1

-- two texts that begin with no zero are the same where they write one number
same_digits : (xs ys : List ℕ) → are_digits xs ≡ true → are_digits ys ≡ true → begins_plain xs → begins_plain ys
    → digits_value 10 xs ≡ digits_value 10 ys → xs ≡ ys
same_digits xs ys p q bx by e =
    by_length xs ys (ltb (length xs) (length ys)) (ltb (length ys) (length xs)) refl refl p q bx by e

-- numbers are the same where their digits are, apart from leading zeros
significant-Decides : (part first : List ℕ) → are_digits part ≡ true → are_digits first ≡ true
    → Decides (digits_value 10 part == digits_value 10 first) (significant part ≡ significant first)
significant-Decides part first p q =
    let own = digits_value-significant part in
    let other = digits_value-significant first in (
      λ t. same_digits _ _ (are_digits-significant part p) (are_digits-significant first q) (significant-begins part)
          (significant-begins first) (own ∙ grind (arith, nat_tests, t) ∙ sym other),
      λ e. let same : digits_value 10 part ≡ digits_value 10 first = sym own ∙ ap (digits_value 10) e ∙ other in
          grind (arith, nat_tests, same),
    )

number_of-same : (is : Bool) (part first : List ℕ) → is_number part ≡ is → are_digits first ≡ true
    → (is_number part && (digits_value 10 part == digits_value 10 first))
    ≡ (is_number part && bytes_eq (significant part) (significant first))
number_of-same false part first t all = rw t refl
number_of-same true part first t all =
    let digits : are_digits part ≡ true = grind (arith, t) in
    rw t (same_from_decides _ _ (significant-Decides part first digits all)
    (bytes_eq-Decides (significant part) (significant first)))

-- all parts agree where their digits do, apart from leading zeros
agree-by_significant : (first : List ℕ) (parts : List (List ℕ)) → is_number first ≡ true
    → agree (first ∷ parts) ≡ list_all (λ part. is_number part && bytes_eq (significant part) (significant first)) parts
agree-by_significant first parts is =
    let all : are_digits first ≡ true = grind (arith, is) in
    let own : (digits_value 10 first == digits_value 10 first) ≡ true = grind (arith, nat_tests) in
    let test = λ (part : List ℕ). is_number part && (digits_value 10 part == digits_value 10 first) in
    let other = λ (part : List ℕ). is_number part && bytes_eq (significant part) (significant first) in
    rw (is, own) (same_from_clauses (list_all test) (list_all other) (λ part rest. other part && rest) refl
    (λ part parts. ap (λ t. t && list_all test parts) (number_of-same (is_number part) part first refl all))
    (λ _ _. refl) parts)

pub agree-by_digits : (first digits : List ℕ) (parts : List (List ℕ)) → is_number first ≡ true
    → digits ≡ significant first → agree (first ∷ parts)
    ≡ list_all (λ part. is_number part && bytes_eq (significant part) digits) parts
agree-by_digits first digits parts is same =
    agree-by_significant first parts is
    ∙ ap (λ ds. list_all (λ part. is_number part && bytes_eq (significant part) ds) parts) (sym same)

-- parts don't agree whose first is no number
pub agree-none : (first : List ℕ) (parts : List (List ℕ)) → is_number first ≡ false → agree (first ∷ parts) ≡ false
agree-none first parts is = rw is refl

-- a bounded number takes one more digit
pub min-digit : (n d most : ℕ) → 0 < most → min (min n most * 10 + d) most ≡ min (n * 10 + d) most
min-digit n d most some = omega arith
