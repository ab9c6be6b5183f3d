-- The words of a line, and the numbers that words write.
use Rattle.std.specs.Prelude.{ℕ, ◌-◌, ◌^◌, Bool, ◌&&◌, not, List, length, slice_index, codes, bytes_eq, nat_lt, nat_le}
use Rattle.std.specs.Prelude.{◌==◌, Option, Some, None, if◌then◌else◌, option_and_then}
use Rattle.std.specs.Char.{is_ascii_digit}
use Rattle.std.specs.List.{list_all, list_any, slice_split, before_first, after_first}
use Rattle.std.specs.Str.Parse.{digits_value}

abbrev pub is_space : ℕ → Bool
is_space c = c == 32

-- the words of a line, each two parted by one space
abbrev pub words : List ℕ → List (List ℕ)
words line = slice_split is_space line

-- whether there is a space, the word before it, and what stands behind it
abbrev pub has_space : List ℕ → Bool
has_space line = list_any is_space line

abbrev pub first_word : List ℕ → List ℕ
first_word line = before_first is_space line

abbrev pub behind_first_word : List ℕ → List ℕ
behind_first_word line = after_first is_space line

-- more than one digit, of which the first is 0
abbrev pub has_leading_zero : List ℕ → Bool
has_leading_zero word = nat_lt 1 (length word) && (slice_index word 0 == 48)

-- one digit or more, without leading zeros
abbrev pub is_decimal : List ℕ → Bool
is_decimal word = nat_lt 0 (length word) && list_all is_ascii_digit word && not (has_leading_zero word)

-- the number that a word writes in decimal, up to the greatest that may stand there
unfoldable pub number_up_to : ℕ → List ℕ → Option ℕ
number_up_to greatest word =
    if is_decimal word && nat_le (digits_value 10 word) greatest then Some (digits_value 10 word) else None

-- the number of an outbox, an entry, an item, an output, or of bytes
abbrev pub number : List ℕ → Option ℕ
number word = number_up_to (2 ^ 63 - 1) word

-- the number of a filing, from 1 on
abbrev pub filing_number : List ℕ → Option ℕ
filing_number word = option_and_then (λ n. if nat_le 1 n then Some n else None) (number word)

-- the number of an arrival to stop at
abbrev pub arrival_number : List ℕ → Option ℕ
arrival_number word = number_up_to (2 ^ 32 - 1) word

-- how many bytes come: as many as a number says, or all that there are
abbrev pub amount : List ℕ → Option ℕ
amount word = if bytes_eq word (codes "all") then Some (2 ^ 64 - 1) else number word
