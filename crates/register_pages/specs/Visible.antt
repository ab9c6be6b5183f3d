-- How control characters are shown (own rule).
use Rattle.std.specs.Prelude.{ℕ, Bool, ◌==◌, ◌+◌, ◌&&◌, ◌||◌, not, List, [], ◌∷◌, nat_lt, if◌then◌else◌, flat_map}

-- a control character of ASCII (U+0000 to U+001F, and U+007F), except for the tab and the line feed, which HTML shows
abbrev pub is_control : ℕ → Bool
is_control b = (nat_lt b 32 && not (b == 9 || b == 10)) || b == 127

-- its symbol in the block Control Pictures (U+2400 to U+241F, and U+2421), in UTF-8
abbrev pub symbol : ℕ → List ℕ
symbol b = 226 ∷ 144 ∷ (if b == 127 then 161 else b + 128) ∷ []

-- what is shown of a byte of a text
abbrev pub visible_byte : ℕ → List ℕ
visible_byte b = if is_control b then symbol b else b ∷ []

-- a text in which each control character is its symbol
abbrev pub visible : List ℕ → List ℕ
visible text = flat_map visible_byte text
