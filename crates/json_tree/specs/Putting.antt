-- Members put into an object one after another. No public clause cites this file.
use Rattle.std.specs.Prelude.{ℕ, List, [], ◌∷◌, map}
use Rattle.std.specs.Borrow.{Bor}
use Rattle.std.specs.List.Sorted.{IsStrictlySortedBy}
use Rattle.std.specs.Ordering.{nat_cmp}
use Rattle.std.specs.Cmp.Lexicographic.{slice_cmp}
use Rattle.serde_json.specs.Data.{Members, put}
use Rattle.json_tree.specs.declared.tree.Tree.{Tree}
use Rattle.json_tree.specs.View.{view}

-- the last value of a name stays
abbrev pub put_all : Members → List (Bor (List ℕ) × Tree) → Members
put_all found [] = found
put_all found (m ∷ ms) = put_all (put m.0.now (view m.1) found) ms

abbrev pub IsAscending : List (Bor (List ℕ) × Tree) → Type 0
IsAscending ms = IsStrictlySortedBy (slice_cmp nat_cmp) (map (λ m. m.0.now) ms)
