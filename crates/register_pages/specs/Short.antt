-- How a long text is shortened (own rule): its beginning and its end stay.
use Rattle.std.specs.Prelude.{ℕ, zero, suc, ◌-◌, ◌&&◌, Bool, not, List, [], ◌∷◌, ◌++◌, take, drop, count_by, nat_le}
use Rattle.std.specs.Prelude.{nat_lt, if◌then◌else◌}

-- in UTF-8 every byte but 10xxxxxx begins a character (RFC 3629, section 3)
abbrev pub begins_character : ℕ → Bool
begins_character b = not (nat_le 128 b && nat_lt b 192)

-- how many characters a text has
abbrev pub characters : List ℕ → ℕ
characters text = count_by begins_character text

-- how many bytes the first n characters of a text have
unfoldable pub first_bytes : ℕ → List ℕ → ℕ
first_bytes n [] = 0
first_bytes zero (b ∷ bytes) = if begins_character b then 0 else suc (first_bytes zero bytes)
first_bytes (suc n) (b ∷ bytes) = suc (first_bytes (if begins_character b then n else suc n) bytes)

-- an ellipsis (U+2026), in UTF-8
abbrev pub ellipsis : List ℕ
ellipsis = 226 ∷ 128 ∷ 166 ∷ []

-- A text of at most 120 characters as it is; of a longer one the first 59 characters, an ellipsis, and the last 60.
abbrev pub shortened : List ℕ → List ℕ
shortened text =
    if nat_le (characters text) 120 then text
    else take (first_bytes 59 text) text ++ ellipsis ++ drop (first_bytes (characters text - 60) text) text
