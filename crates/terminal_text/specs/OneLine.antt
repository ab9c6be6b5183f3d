-- How a text from outside is written on a terminal or in a log; own rule.
use Rattle.std.specs.Prelude.{ℕ, ◌+◌, ◌-◌, ◌/◌, ◌%◌, ◌==◌, ◌||◌, ◌&&◌, not, List, [], ◌∷◌, ◌++◌, Bool, nat_lt}
use Rattle.std.specs.Prelude.{if◌then◌else◌, codes, flat_map}
use Rattle.std.specs.Char.{encode_utf8}
use Rattle.std.specs.Str.{chars}

-- from one number to another
abbrev pub is_in : ℕ → ℕ → ℕ → Bool
is_in first last c = not (nat_lt c first) && not (nat_lt last c)

-- the controls C0, DEL and C1 (Unicode category Cc)
abbrev pub is_control : ℕ → Bool
is_control c = is_in 0x00 0x1f c || is_in 0x7f 0x9f c

-- the separators of lines and paragraphs (categories Zl and Zp)
abbrev pub is_separator : ℕ → Bool
is_separator c = is_in 0x2028 0x2029 c

-- ALM, LRM and RLM; LRE, RLE, PDF, LRO and RLO; LRI, RLI, FSI and PDI (UAX #9, section 2)
abbrev pub is_directional : ℕ → Bool
is_directional c = (c == 0x61c) || (is_in 0x200e 0x200f c || (is_in 0x202a 0x202e c || is_in 0x2066 0x2069 c))

abbrev pub is_hidden : ℕ → Bool
is_hidden c = is_control c || (is_separator c || is_directional c)

-- the last digit of a number in base 16
abbrev pub hexadecimal : ℕ → ℕ
hexadecimal number = if nat_lt (number % 16) 10 then 48 + number % 16 else 97 + (number % 16 - 10)

-- an escape of JSON (RFC 8259, section 7)
unfoldable pub escape : ℕ → List ℕ
escape c =
    codes "\\u" ++ hexadecimal (c / 4096) ∷ hexadecimal (c / 256) ∷ hexadecimal (c / 16) ∷ hexadecimal c ∷ []

abbrev pub written : ℕ → List ℕ
written c = if is_hidden c then escape c else encode_utf8 c

-- each hidden character of a text is written as an escape, and each other one as it is
abbrev pub one_line : List ℕ → List ℕ
one_line text = flat_map written (chars text)
