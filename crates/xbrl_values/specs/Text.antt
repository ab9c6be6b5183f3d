-- What is asked of a text.
use Rattle.std.specs.Prelude.{ℕ, nat_eq, List, Bool, false, Option, Some, None}
use Rattle.std.specs.Cmp.Lexicographic.{pointwise}

-- the two texts are equal, byte for byte
abbrev pub same : List ℕ → List ℕ → Bool
same = pointwise nat_eq

-- there is a text, and it passes
abbrev pub text_passes : (List ℕ → Bool) → Option (List ℕ) → Bool
text_passes test None = false
text_passes test (Some s) = test s
