-- Lines and columns, counted from 1.
use Rattle.std.specs.Prelude.{ℕ, ◌+◌, ◌==◌, ◌&&◌, List, [], ◌∷◌, ◌++◌, Bool, not, nat_le, nat_lt, count_by}
use Rattle.std.specs.Prelude.{if◌then◌else◌}
use Rattle.report_places.specs.declared.position.Position.{Position}

-- in UTF-8 every byte but 10xxxxxx begins a character (RFC 3629, section 3)
abbrev pub begins_character : ℕ → Bool
begins_character b = not (nat_le 128 b && nat_lt b 192)

abbrev pub is_line_feed : ℕ → Bool
is_line_feed b = b == 10

-- what follows the last line feed of the bytes, or all of them; `line` has been read of it
abbrev pub last_line_from : List ℕ → List ℕ → List ℕ
last_line_from line [] = line
last_line_from line (b ∷ bytes) = last_line_from (if is_line_feed b then [] else line ++ b ∷ []) bytes

abbrev pub last_line : List ℕ → List ℕ
last_line = last_line_from []

-- of what follows these bytes
unfoldable pub position_after : List ℕ → Position
position_after bytes =
    record { line = 1 + count_by is_line_feed bytes; column = 1 + count_by begins_character (last_line bytes) }

-- a byte at a time; no public clause cites these two
abbrev pub start : Position
start = record { line = 1; column = 1 }

abbrev pub step : Position → ℕ → Position
step p b =
    if is_line_feed b then record { line = p.line + 1; column = 1 }
    else (if begins_character b then record { line = p.line; column = p.column + 1 } else p)
