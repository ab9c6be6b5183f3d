-- Where a JSON Pointer leads in a value (RFC 6901, section 4). A place is given by the number of tokens of the value's
-- text that stand before it: the tokens of a text are those of its value, one after another (`json_tokens`).
use Rattle.std.specs.Prelude.{ℕ, zero, suc, ◌+◌, ◌==◌, List, [], ◌∷◌, ◌++◌, length, Bool, true, false, if◌then◌else◌}
use Rattle.std.specs.Prelude.{Option, Some, None, option_map, option_and_then}
use Rattle.std.specs.Str.{bytes_eq}
use Rattle.json.specs.Json.{Json, null, boolean, number, string, array, object, Items, no_items, item, Members}
use Rattle.json.specs.Json.{no_members, member}
use Rattle.json.specs.Tree.{json_tokens}
use Rattle.serde_json.specs.Find.{unescape, index_of}

-- a value, and how many tokens stand before it
abbrev pub Found : Type 0
Found = ℕ × Json

-- with n more tokens before it
abbrev pub behind : ℕ → Option Found → Option Found
behind n = option_map (λ v. (n + v.0, v.1))

abbrev pub later_or : Option Found → Option Found → Option Found
later_or None earlier = earlier
later_or (Some v) earlier = Some v

abbrev pub value_of : Option Found → Option Json
value_of = option_map (λ v. v.1)

-- the value of the last member of that name; the name of a member is a token of its own
abbrev pub member_of : List ℕ → Members → Option Found
member_of name no_members = None
member_of name (member k v ms) =
    later_or (behind (1 + length (json_tokens v)) (member_of name ms)) (if bytes_eq k name then Some (1, v) else None)

-- the element of that index
abbrev pub element_of : ℕ → Items → Option Found
element_of i no_items = None
element_of zero (item v vs) = Some (0, v)
element_of (suc i) (item v vs) = behind (length (json_tokens v)) (element_of i vs)

-- what one part of a pointer names in a value, after the token of the bracket
abbrev pub child : List ℕ → Json → Option Found
child part null = None
child part (boolean b) = None
child part (number s) = None
child part (string s) = None
child part (array vs) = behind 1 (option_and_then (λ i. element_of i vs) (index_of part))
child part (object ms) = behind 1 (member_of (unescape part) ms)

-- the value that a pointer names, or the nearest one above it that is there, and the token at which it begins
pub record Reached : Type 0 where
  pub token : ℕ
  pub value : Json
  pub is_there : Bool

-- to the child, or no further than to the value j at token k
abbrev pub go_on : ℕ → Json → Option Found → (ℕ → Json → Reached) → Reached
go_on k j None further = record { token = k; value = j; is_there = false }
go_on k j (Some v) further = further (k + v.0) v.1

-- by all these parts, from the value j at token k
abbrev pub along : List (List ℕ) → ℕ → Json → Reached
along [] k j = record { token = k; value = j; is_there = true }
along (part ∷ parts) k j = go_on k j (child part j) (along parts)

-- the parts between slashes; `part` has been read of the first
unfoldable pub parts_of : List ℕ → List ℕ → List (List ℕ)
parts_of part [] = part ∷ []
parts_of part (x ∷ rest) = if x == 47 then part ∷ parts_of [] rest else parts_of (part ++ x ∷ []) rest

-- A pointer is empty, or a slash and its parts; any other text leads nowhere.
abbrev pub lead : List ℕ → Json → Reached
lead [] j = record { token = 0; value = j; is_there = true }
lead (x ∷ rest) j = if x == 47 then along (parts_of [] rest) 0 j else record { token = 0; value = j; is_there = false }
