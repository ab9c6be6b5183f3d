-- The lines of a text.
use Rattle.std.specs.Prelude.{ℕ, Bool, List, ◌==◌}
use Rattle.std.specs.List.{slice_split}

abbrev pub is_line_feed : ℕ → Bool
is_line_feed c = c == 10

-- The lines of a text without their line feeds, and behind them what follows the last line feed. If a text ends in a
-- line feed, this last part is empty.
abbrev pub lines_of : List ℕ → List (List ℕ)
lines_of text = slice_split is_line_feed text
