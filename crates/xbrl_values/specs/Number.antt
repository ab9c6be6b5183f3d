-- Numbers: the value of a fact with a unit (OIM 1.0, unit core dimension; XML Schema 1.1 part 2, the lexical forms of
-- `decimal` and `double`).
use Rattle.std.specs.Prelude.{ℕ, ◌+◌, ◌-◌, ◌==◌, ◌&&◌, ◌||◌, nat_lt, not, Bool, List, length, take, drop, slice_index}
use Rattle.std.specs.Prelude.{codes, if◌then◌else◌}
use Rattle.std.specs.List.{list_all, list_any, before_first, after_first, prefix_len, suffix_len}
use Rattle.std.specs.Char.{is_ascii_digit}
use Rattle.xbrl_values.specs.Text.{same}

-- space, tab, line feed, carriage return
abbrev pub is_space : ℕ → Bool
is_space b = (b == 32) || (b == 9) || (b == 10) || (b == 13)

abbrev pub without_start : List ℕ → List ℕ
without_start s = drop (prefix_len is_space s) s

abbrev pub without_end : List ℕ → List ℕ
without_end s = take (length s - suffix_len is_space s) s

-- one sign at most
abbrev pub without_sign : List ℕ → List ℕ
without_sign s = if (slice_index s 0 == 43) || (slice_index s 0 == 45) then drop 1 s else s

abbrev pub are_digits : List ℕ → Bool
are_digits s = list_all is_ascii_digit s

abbrev pub is_point : ℕ → Bool
is_point b = b == 46

abbrev pub is_exponent_mark : ℕ → Bool
is_exponent_mark b = (b == 69) || (b == 101)

-- digits, at least one, with at most one point before, among or after them
unfoldable pub is_mantissa : List ℕ → Bool
is_mantissa s =
    are_digits (before_first is_point s) && are_digits (after_first is_point s)
    && nat_lt 0 (length (before_first is_point s) + length (after_first is_point s))

-- digits, at least one, after at most one sign
unfoldable pub is_exponent : List ℕ → Bool
is_exponent s = nat_lt 0 (length (without_sign s)) && are_digits (without_sign s)

-- a mantissa after at most one sign, and an exponent if there is an exponent mark
unfoldable pub is_decimal : List ℕ → Bool
is_decimal s =
    is_mantissa (before_first is_exponent_mark (without_sign s))
    && (not (list_any is_exponent_mark (without_sign s)) || is_exponent (after_first is_exponent_mark (without_sign s)))

-- one of the three words, or a decimal
unfoldable pub is_numeral : List ℕ → Bool
is_numeral s = same s (codes "INF") || same s (codes "-INF") || same s (codes "NaN") || is_decimal s

-- with white space at its ends
unfoldable pub is_number : List ℕ → Bool
is_number s = is_numeral (without_end (without_start s))
