-- Where tokens begin, a byte at a time. No public clause cites this file.
use Rattle.std.specs.Prelude.{ℕ, ◌+◌, ◌==◌, ◌||◌, List, [], ◌∷◌, Bool, false, not, cond}
use Rattle.json.specs.Word.{is_operator, is_space}
use Rattle.json.specs.Lex.{Class, quote, backslash, operator, space, other, class, Mode, between, in_word, in_string}
use Rattle.json.specs.Lex.{in_escape}
use Rattle.report_places.specs.declared.mode.Mode as code
use Rattle.report_places.specs.declared.mode.Mode.TheVariants.{Between, InWord, InString, InEscape}
use Rattle.report_places.specs.declared.position.Position.{Position}
use Rattle.report_places.specs.declared.spot.Spot.{Spot}
use Rattle.report_places.specs.Position.{step}

abbrev pub mode_of : code.Mode → Mode
mode_of Between = between
mode_of InWord = in_word
mode_of InString = in_string
mode_of InEscape = in_escape

-- the mode in which `lex` goes on
abbrev pub next_mode : Mode → Class → Mode
next_mode between quote = in_string
next_mode between backslash = in_word
next_mode between operator = between
next_mode between space = between
next_mode between other = in_word
next_mode in_word quote = in_word
next_mode in_word backslash = in_word
next_mode in_word operator = between
next_mode in_word space = between
next_mode in_word other = in_word
next_mode in_string quote = between
next_mode in_string backslash = in_escape
next_mode in_string operator = in_string
next_mode in_string space = in_string
next_mode in_string other = in_string
next_mode in_escape c = in_string

abbrev pub is_bracket : ℕ → Bool
is_bracket x = (x == 123) || (x == 125) || (x == 91) || (x == 93)

-- a token begins with the byte x
abbrev pub begins : Mode → ℕ → Bool
begins between x = is_bracket x || not (is_operator x || is_space x)
begins in_word x = is_bracket x
begins in_string x = false
begins in_escape x = false

abbrev pub spot_if : Bool → ℕ → Position → List Spot → List Spot
spot_if test offset position more = cond test (record { offset = offset; position = position } ∷ more) more

-- of the bytes from an offset on, which has that position
unfoldable pub spots_from : Mode → Position → ℕ → List ℕ → List Spot
spots_from m p offset [] = []
spots_from m p offset (x ∷ xs) =
    spot_if (begins m x) offset p (spots_from (next_mode m (class x)) (step p x) (offset + 1) xs)
