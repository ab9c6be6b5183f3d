-- What a look-up on a tape answers. No public clause cites this file.
use Rattle.std.specs.Prelude.{◌≡◌, ℕ, ◌+◌, List, ◌++◌, ◌∷◌, ◌<◌, ◌≤◌, length, map, drop, Option, Some, None}
use Rattle.std.specs.Prelude.{MatchOption, IfSome, option_and_then, slice_get, ⊤}
use Rattle.std.specs.BTreeMap.{get}
use Rattle.std.specs.Ordering.{nat_cmp}
use Rattle.std.specs.Borrow.{Bor}
use Rattle.json.specs.Token.{Token, key}
use Rattle.json.specs.Json.{Json, Members, no_members, after_end_array}
use Rattle.json.specs.Tree.{json_tokens, members_tokens}
use Rattle.json.specs.Tape.{node_token, LinkAt}
use Rattle.json.specs.declared.tape.Node.{Node}
use Rattle.serde_json.specs.Find.{unescape, index_of}
use Rattle.report_places.specs.Entries.{AreByName, value_at}
use Rattle.report_places.specs.Lead.{Found, Reached, child}
use Rattle.report_places.specs.declared.children.Children.{Children}
use Rattle.report_places.specs.declared.children.Children.TheVariants.{Members as members, Elements, Nothing}
use Rattle.report_places.specs.declared.index.Index.{Index}
use Rattle.report_places.specs.declared.lead.Lead.{Lead}

-- v begins so many tokens after `from`, and `at` is that token
pub record StandsAt (ts : List Token) (from : ℕ) (v : Found) (at : ℕ) : Type 0 where
  pub token : at ≡ from + v.0
  pub rest : List Token
  pub begins : drop at ts ≡ json_tokens v.1 ++ rest

abbrev pub IsFound : List Token → ℕ → Option Found → Option ℕ → Type 0
IsFound ts from found result =
    MatchOption result (found ≡ None) (λ at. (v : Found) × (found ≡ Some v) × StandsAt ts from v at)

-- the tokens that the nodes stand for, from node i on
abbrev pub left_at : List Node → ℕ → List Token
left_at nodes i = drop i (map node_token nodes)

pub record IsNode (nodes : List Node) (i : ℕ) (node : Node) : Type 0 where
  pub within : i < length nodes
  pub first : left_at nodes i ≡ node_token node ∷ left_at nodes (i + 1)
  pub link : LinkAt (map node_token nodes) i node

abbrev pub IsNodeAt : List Node → ℕ → Option Node → Type 0
IsNodeAt nodes i result = MatchOption result (length nodes ≤ i) (IsNode nodes i)

-- the name is the key at node i; without one no member begins there
abbrev pub IsNameAt : List Node → ℕ → Option (Bor (List ℕ)) → Type 0
IsNameAt nodes i result =
    MatchOption result ((ms : Members) (rest : List Token) → left_at nodes i ≡ members_tokens ms ++ rest
    → ms ≡ no_members)
    (λ name. (i < length nodes) × (left_at nodes i ≡ key name.now ∷ left_at nodes (i + 1)))

-- neither the end nor a closing bracket
abbrev pub HasElementAt : List Node → ℕ → Type 0
HasElementAt nodes i = (i < length nodes) × (after_end_array (left_at nodes i) ≡ None)

-- what the code answers about where a pointer leads
abbrev pub led : Reached → Lead
led r = record { token = r.token; is_there = r.is_there }

-- the value begins at that token
abbrev pub Begins : List Token → ℕ → Json → Type 0
Begins ts k v = (rest : List Token) × (drop k ts ≡ json_tokens v ++ rest)

-- what children have under a part of a pointer
abbrev pub found_in : Children → List ℕ → Option ℕ
found_in (members entries) part = value_at entries.items (unescape part)
found_in (Elements tokens) part = option_and_then (slice_get tokens.items) (index_of part)
found_in Nothing part = None

-- each part leads to what it names in the value at `at`
abbrev pub AreChildren : List Token → ℕ → Children → Type 0
AreChildren ts at children = (value : Json) (rest : List Token) → drop at ts ≡ json_tokens value ++ rest
    → (part : List ℕ) → IsFound ts at (child part value) (found_in children part)

-- members are by name
abbrev pub IsInOrder : Children → Type 0
IsInOrder (members entries) = AreByName entries.items
IsInOrder (Elements tokens) = ⊤
IsInOrder Nothing = ⊤

-- what is kept of a value is what stands there
abbrev pub IsIndexOf : List Token → Index → Type 0
IsIndexOf ts index =
    (at : ℕ) → IfSome (get nat_cmp index.asked at) (λ children. IsInOrder children × AreChildren ts at children)
