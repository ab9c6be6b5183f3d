-- The parts of a text that a byte separates, as the comma in lists (RFC 9110, section 5.6.1).
use Rattle.std.specs.Prelude.{ℕ, ◌==◌, List, [], Option, Some, None}
use Rattle.std.specs.List.{slice_split}

-- the parts of what follows the first such byte, if one stands there
abbrev pub later_parts : ℕ → Option (List ℕ) → List (List ℕ)
later_parts stop None = []
later_parts stop (Some rest) = slice_split (λ byte. byte == stop) rest
