-- What `clap`'s getters answer, as numbers, flags and texts of the options that were found.
use Rattle.std.proofs.Common.{◌≡◌, ◌∙◌, ◌^◌, ◌&&◌, ℕ, Bool, true, false, refl, ap, lt-ltb, ltb-true, option_map}
use Rattle.std.proofs.Common.{List, [], ◌∷◌, length, nat_lt, codes, Option, Some, None, Result, Ok, Err}
use Rattle.std.proofs.lemmas.Slice.Eq.{bytes_eq-Decides}
use Rattle.std.specs.Bool.{Decides}
use Rattle.std.specs.Char.{digit_value}
use Rattle.std.specs.List.{list_all}
use Rattle.std.specs.Option.{option_map_or, unwrap_or}
use Rattle.std.specs.Result.{result_ok}
use Rattle.std.specs.Prelude.{option_and_then}
use Rattle.std.specs.Str.{bytes_eq}
use Rattle.std.specs.Str.Parse.{AllDigits, ParsesUnsigned, ExplainsUnsignedError, HasUnsignedDigitsIfOk, ParsesBool}
use Rattle.std.specs.Str.Parse.{digits_value, true_text, without_leading_plus}
use Rattle.std.specs.declared.num.ParseIntError.{ParseIntError}
use Rattle.std.specs.declared.str.ParseBoolError.{ParseBoolError}
use Rattle.clap.proofs.WalkLemmas.{both, one_text-rows, raw_values-rows}
use Rattle.clap.specs.Words.{ReadsOne, Text, matched_of, one_text, raw_values, rows_of}
use Rattle.clap.specs.declared.parser.matches.Found.{Found}
use Rattle.command_line.specs.Values.{values, is_set, read_decimal, number}

-- ---- numbers

all_pass : (digits : List ℕ) → AllDigits 10 digits → list_all (λ digit. nat_lt (digit_value digit) 10) digits ≡ true
all_pass [] are = refl
all_pass (digit ∷ rest) are = rw (lt-ltb (digit_value digit) 10 are.0) (all_pass rest are.1)

all_are : (digits : List ℕ) → list_all (λ digit. nat_lt (digit_value digit) 10) digits ≡ true → AllDigits 10 digits
all_are [] pass = tt
all_are (digit ∷ rest) pass =
    let parts = both _ _ pass in
    (ltb-true _ _ parts.0, all_are rest parts.1)

-- these digits write a number that is less than 2 ^ bits
abbrev fits : ℕ → List ℕ → Bool
fits bits digits = nat_lt 0 (length digits) && list_all (λ digit. nat_lt (digit_value digit) 10) digits
    && nat_lt (digits_value 10 digits) (2 ^ bits)

-- what std reads of a text as an integer
abbrev Reads : ℕ → Text → Result ℕ ParseIntError → Type 0
Reads bits text read =
    ParsesUnsigned bits 10 text read × ExplainsUnsignedError 10 text read × HasUnsignedDigitsIfOk text read

is_number : (bits : ℕ) (text : Text) (n : ℕ) → Reads bits text (Ok n) → Some n ≡ read_decimal bits text
unfolding read_decimal
is_number bits text n read =
    let digits = without_leading_plus text in
    let is = read.0.0 in
    rw (lt-ltb 0 (length digits) is.0.0, all_pass digits is.0.1, lt-ltb (digits_value 10 digits) (2 ^ bits) is.1)
    (ap Some read.0.1)

is_none : (bits : ℕ) (text : Text) (why : ParseIntError) → Reads bits text (Err why) → None ≡ read_decimal bits text
unfolding read_decimal
is_none bits text why unread = go (fits bits (without_leading_plus text)) refl
  where
    go : (b : Bool) → fits bits (without_leading_plus text) ≡ b → None ≡ read_decimal bits text
    go false is = rw is refl
    go true is =
        let outer = both _ _ is in
        let inner = both _ _ outer.0 in
        absurd (unread.0 ((ltb-true _ _ inner.0, all_are (without_leading_plus text) inner.1), ltb-true _ _ outer.1))

-- `parse` answers the number that a text writes
pub text_read : (bits : ℕ) (text : Text) (read : Result ℕ ParseIntError) → Reads bits text read
    → result_ok read ≡ read_decimal bits text
text_read bits text (Ok n) is = is_number bits text n is
text_read bits text (Err why) isnt = is_none bits text why isnt

-- `get_one` answers the number that the value of an option writes
pub number_read : (bits : ℕ) (found : Found) (name : Text) (result : Option ℕ)
    → (one_text found name ≡ None → result ≡ None)
    → ((text : Text) → one_text found name ≡ Some text → ReadsOne (Reads bits) text result)
    → result ≡ number bits name (rows_of found)
unfolding number
number_read bits found name result none some =
    go (one_text found name) refl ∙ ap (option_and_then (read_decimal bits)) (one_text-rows found name)
  where
    of_text : (text : Text) (r : Option ℕ) → ReadsOne (Reads bits) text r → r ≡ read_decimal bits text
    of_text text (Some n) read = is_number bits text n read
    of_text text None unread = is_none bits text unread.0 unread.1

    go : (o : Option Text) → one_text found name ≡ o → result ≡ option_and_then (read_decimal bits) o
    go None is = none is
    go (Some text) is = of_text text result (some text is)

-- ---- flags

isnt_true : (text : Text) → (text ≡ true_text → ⊥) → false ≡ bytes_eq text true_text
isnt_true text isnt = go (bytes_eq text true_text) (bytes_eq-Decides text true_text)
  where
    go : (b : Bool) → Decides b (text ≡ true_text) → false ≡ b
    go false decides = refl
    go true decides = absurd (isnt (decides.0 refl))

-- `get_one` answers whether a flag is given
pub flag_read : (found : Found) (name : Text) (result : Option Bool)
    → (one_text found name ≡ None → result ≡ None)
    → ((text : Text) → one_text found name ≡ Some text
    → ReadsOne {E = ParseBoolError} ParsesBool text result)
    → unwrap_or result false ≡ is_set name (rows_of found)
unfolding is_set
flag_read found name result none some =
    go (one_text found name) refl
    ∙ ap (λ o. option_map_or (λ text. bytes_eq text (codes "true")) o false) (one_text-rows found name)
  where
    of_text : (text : Text) (r : Option Bool) → ReadsOne {E = ParseBoolError} ParsesBool text r
        → unwrap_or r false ≡ bytes_eq text true_text
    of_text text (Some true) is = rw is refl
    of_text text (Some false) is = rw is refl
    of_text text None isnt = isnt_true text isnt.1.0

    go : (o : Option Text) → one_text found name ≡ o
        → unwrap_or result false ≡ option_map_or (λ text. bytes_eq text (codes "true")) o false
    go None is = rw (none is) refl
    go (Some text) is = of_text text result (some text is)

-- ---- texts

-- `get_strs` answers all values of an option
pub values_read : (found : Found) (name : Text) (given : Option (List Text))
    → given ≡ option_map raw_values (matched_of found name) → unwrap_or given [] ≡ values name (rows_of found)
unfolding values
values_read found name given are = ap (λ all. unwrap_or all []) (are ∙ raw_values-rows found name)
