-- The code of a filer (own rule).
use Rattle.std.specs.Prelude.{ℕ, Bool, ◌&&◌, ◌||◌, List, length, nat_lt, nat_le, ◌==◌}
use Rattle.std.specs.List.{list_all}
use Rattle.std.specs.Char.{is_ascii_alphanumeric}

-- an ASCII letter, a digit, or one of `.`, `_`, `-`
abbrev pub is_filer_byte : ℕ → Bool
is_filer_byte c = is_ascii_alphanumeric c || c == 46 || c == 95 || c == 45

-- a filer code has 1 to 64 such characters
unfoldable pub is_filer : List ℕ → Bool
is_filer text = nat_lt 0 (length text) && nat_le (length text) 64 && list_all is_filer_byte text
