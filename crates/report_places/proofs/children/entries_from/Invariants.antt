use Rattle.std.proofs.Common.{◌≡◌, ◌-◌, ◌≤◌, ◌++◌, ℕ, List, length, map, drop, Option}
use Rattle.json.specs.Json.{Members}
use Rattle.json.specs.Token.{Token}
use Rattle.json.specs.Tape.{node_token}
use Rattle.json.specs.Tree.{members_tokens}
use Rattle.report_places.specs.Lead.{Found, behind, later_or, member_of}
use Rattle.report_places.specs.Entries.{value_at}
use Rattle.report_places.specs.OnTape.{IsFound}
use Rattle.report_places.proofs.children.entries_from.Given as goal

abbrev pub invariant-members : goal.invariant-members
invariant-members l =
    (l.from ≤ l.at)
    × ((ms : Members) (rest : List Token) → drop l.from (map node_token l.nodes) ≡ members_tokens ms ++ rest
    → (more : Members) × (earlier : List ℕ → Option Found)
    × (drop l.at (map node_token l.nodes) ≡ members_tokens more ++ rest)
    × ((name : List ℕ) → member_of name ms ≡ later_or (behind (l.at - l.from) (member_of name more)) (earlier name))
    × ((name : List ℕ) → IsFound (map node_token l.nodes) l.from (earlier name) (value_at l.entries.items name)))

abbrev pub decreases-members : goal.decreases-members
decreases-members l = length l.nodes - l.at
