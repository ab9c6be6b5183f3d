use Rattle.std.proofs.Common.{◌≡◌, ◌+◌, ◌-◌, ◌<◌, ◌≤◌, ◌++◌, ℕ, List, length, map, drop, slice_get}
use Rattle.json.specs.Json.{Items}
use Rattle.json.specs.Token.{Token}
use Rattle.json.specs.Tape.{node_token}
use Rattle.json.specs.Tree.{items_tokens}
use Rattle.report_places.specs.Lead.{behind, element_of}
use Rattle.report_places.specs.OnTape.{IsFound}
use Rattle.report_places.proofs.children.elements.Given as goal

abbrev pub invariant-elements : goal.invariant-elements
invariant-elements l =
    (l.from ≤ l.at)
    × ((vs : Items) (rest : List Token) → drop l.from (map node_token l.nodes) ≡ items_tokens vs ++ rest
    → (more : Items) × (drop l.at (map node_token l.nodes) ≡ items_tokens more ++ rest)
    × ((i : ℕ) → element_of (length l.tokens.items + i) vs ≡ behind (l.at - l.from) (element_of i more))
    × ((i : ℕ) → i < length l.tokens.items
    → IsFound (map node_token l.nodes) l.from (element_of i vs) (slice_get l.tokens.items i)))

abbrev pub decreases-elements : goal.decreases-elements
decreases-elements l = length l.nodes - l.at
