-- What `clap` found for the options of a word, as texts, flags and numbers. Each is looked up by the option's name.
use Rattle.std.specs.Prelude.{◌&&◌, ◌^◌, ℕ, Bool, false, List, [], length, codes, nat_lt, Option, Some, None}
use Rattle.std.specs.Prelude.{option_and_then, unwrap_or, if◌then◌else◌}
use Rattle.std.specs.Char.{digit_value}
use Rattle.std.specs.List.{list_all}
use Rattle.std.specs.Option.{option_map_or}
use Rattle.std.specs.Str.{bytes_eq}
use Rattle.std.specs.Str.Parse.{digits_value, without_leading_plus}
use Rattle.clap.specs.Words.{Row, Text, all_of, first_of, found_of, one_of, rows_of}
use Rattle.clap.specs.declared.parser.matches.ArgMatches.{ArgMatches}

-- the options that were found, and their values
abbrev pub options_of : ArgMatches → List Row
options_of matches = rows_of (found_of matches)

-- the value of an option, or the first of several
unfoldable pub value : Text → List Row → Option Text
value = first_of

-- all values of an option
unfoldable pub values : Text → List Row → List Text
values name options = unwrap_or (all_of name options) []

-- whether a flag is given
unfoldable pub is_set : Text → List Row → Bool
is_set name options = option_map_or (λ text. bytes_eq text (codes "true")) (one_of name options) false

-- the number that a text writes in decimal digits, if it is less than 2 ^ bits
unfoldable pub read_decimal : ℕ → Text → Option ℕ
read_decimal bits text =
    let digits = without_leading_plus text in
    if nat_lt 0 (length digits) && list_all (λ digit. nat_lt (digit_value digit) 10) digits
    && nat_lt (digits_value 10 digits) (2 ^ bits) then Some (digits_value 10 digits) else None

-- the number that the value of an option writes
unfoldable pub number : ℕ → Text → List Row → Option ℕ
number bits name options = option_and_then (read_decimal bits) (one_of name options)
