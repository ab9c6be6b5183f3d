-- The parts of a text that a byte separates.
use Rattle.std.proofs.Common.{◌≡◌, ℕ, ◌+◌, ◌-◌, ◌≤◌, ◌==◌, false, List, [], ◌∷◌, ◌++◌, length, take, drop, map, Option}
use Rattle.std.proofs.Common.{Some, None, refl, arith}
use Rattle.std.specs.Prelude.{position}
use Rattle.std.specs.List.{slice_split, position_or_len}
use Rattle.std.proofs.lemmas.Grind.{common_steps}
use Rattle.std.proofs.lemmas.Bool.Decides.{nat_tests}
use Rattle.std.proofs.lemmas.List.Elements.{All-from_get_or}
use Rattle.std.proofs.lemmas.List.Quantifiers.{position-Some}
use Rattle.std.proofs.lemmas.List.Sums.{position_or_len_is, fails_before_first}
use Rattle.std.proofs.lemmas.List.Splits.{slice_split_first, slice_split_none}
use Rattle.httparse.specs.Ascii.{comma}
use Rattle.httparse.specs.Grammar.{trim_ows}
use Rattle.http_messages.specs.Head.{comma_parts, values_named}
use Rattle.http_messages.specs.Parts.{later_parts}

-- the first part ends at the first such byte
pub parts-at : (stop : ℕ) (text : List ℕ) (at : ℕ) → position (λ byte. byte == stop) text ≡ Some at
    → slice_split (λ byte. byte == stop) text ≡ take at text
    ∷ slice_split (λ byte. byte == stop) (take (length text - (at + 1)) (drop (at + 1) text))
parts-at stop text at found =
    let test = λ (byte : ℕ). byte == stop in
    let here = position-Some test text at 0 found in
    let place : position_or_len test text ≡ at =
    position_or_len_is test text at 0 (omega (arith, here.0)) here.2 (λ _. here.1) in
    let cut = slice_split_first test text 0 (omega (arith, here.0, place)) in
    let rest : take (length text - (at + 1)) (drop (at + 1) text) ≡ drop (at + 1) text = grind (arith, common_steps) in
    rw rest (rw place at cut)

-- without such a byte the text is the one part
pub parts-whole : (stop : ℕ) (text : List ℕ) → position (λ byte. byte == stop) text ≡ None
    → slice_split (λ byte. byte == stop) text ≡ text ∷ []
parts-whole stop text none =
    let test = λ (byte : ℕ). byte == stop in
    let past : length text ≤ position_or_len test text = grind (arith, nat_tests, none) in
    slice_split_none test text (All-from_get_or (λ byte. test byte ≡ false) text 0
    (λ k low. fails_before_first test text k 0 (omega arith)))

-- the first part of a value comes, and the others stay
pub parts-turn : (value part trimmed : List ℕ) (rest : Option (List ℕ)) (later : List (List ℕ))
    → slice_split (λ byte. byte == comma) value ≡ part ∷ later_parts comma rest → trimmed ≡ trim_ows part
    → comma_parts value ++ later ≡ trimmed ∷ (map trim_ows (later_parts comma rest) ++ later)
parts-turn value part trimmed rest later cut trim = rw (cut, trim) refl

-- no more fields have a name than there are
pub values_named-few : (name : List ℕ) (fields : List (List ℕ × List ℕ))
    → length (values_named name fields) ≤ length fields
values_named-few name [] = omega arith
values_named-few name (field ∷ fields) = grind (arith, common_steps, nat_tests, values_named-few name fields)
