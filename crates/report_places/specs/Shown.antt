-- The text of a value, to show it.
use Rattle.std.specs.Prelude.{ℕ, zero, suc, ◌==◌, ◌||◌, List, [], ◌∷◌, take, Bool, not, if◌then◌else◌, Option, Some}
use Rattle.std.specs.Prelude.{None, option_map}
use Rattle.std.specs.List.{prefix_len}
use Rattle.json.specs.Word.{is_operator, is_space}
use Rattle.json.specs.Lex.{in_string}
use Rattle.json.specs.Align.{span}
use Rattle.report_places.specs.Position.{begins_character}

-- a word ends before a bracket, a comma, a colon or a space
abbrev pub goes_on : ℕ → Bool
goes_on b = not (is_operator b || is_space b)

-- The string, number or literal with which the bytes begin. A string ends with the first quote that is not escaped
-- (`span`).
abbrev pub scalar : List ℕ → Option (List ℕ)
scalar [] = None
scalar (b ∷ bytes) =
    if b == 34 then Some (b ∷ take (span in_string bytes) bytes)
    else (if goes_on b then Some (take (prefix_len goes_on (b ∷ bytes)) (b ∷ bytes)) else None)

-- as many bytes as are n characters, or all
unfoldable pub first_characters : ℕ → List ℕ → List ℕ
first_characters n [] = []
first_characters zero (b ∷ bytes) = if begins_character b then [] else b ∷ first_characters zero bytes
first_characters (suc n) (b ∷ bytes) = b ∷ first_characters (if begins_character b then n else suc n) bytes

abbrev pub value_text : List ℕ → Option (List ℕ)
value_text bytes = option_map (first_characters 60) (scalar bytes)
