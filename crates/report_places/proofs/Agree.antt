-- What a part of a pointer names is what `json` finds.
use Rattle.std.proofs.Common.{◌≡◌, ℕ, zero, suc, List, cond, Bool, true, false, Option, Some, None, option_and_then}
use Rattle.std.proofs.Common.{refl, ap₂, ◌∙◌}
use Rattle.json.specs.Find as json
use Rattle.json.specs.Json.{Json, array, object, Items, no_items, item, Members, no_members, member}
use Rattle.serde_json.specs.Find.{unescape, index_of}
use Rattle.report_places.specs.Lead.{Found, behind, later_or, member_of, element_of, child, value_of}
use Rattle.std.specs.Str.{bytes_eq}

value-later_or : (a b : Option Found) → value_of (later_or a b) ≡ json.later_or (value_of a) (value_of b)
value-later_or None b = refl
value-later_or (Some v) b = refl

value-behind : (n : ℕ) (found : Option Found) → value_of (behind n found) ≡ value_of found
value-behind n None = refl
value-behind n (Some v) = refl

if_named : (b : Bool) (v : Json) → value_of (cond b (Some (1, v)) None) ≡ cond b (Some v) None
if_named true v = refl
if_named false v = refl

value-member_of : (name : List ℕ) (ms : Members) → value_of (member_of name ms) ≡ json.get_member name ms
value-member_of name no_members = refl
value-member_of name (member k v ms) =
    value-later_or _ _ ∙ ap₂ json.later_or (value-behind _ (member_of name ms)
    ∙ value-member_of name ms) (if_named (bytes_eq k name) v)

value-element_of : (i : ℕ) (vs : Items) → value_of (element_of i vs) ≡ json.get_item i vs
value-element_of i no_items = refl
value-element_of zero (item v vs) = refl
value-element_of (suc i) (item v vs) = value-behind _ (element_of i vs) ∙ value-element_of i vs

pub named_member : (part : List ℕ) (ms : Members)
    → value_of (child part (object ms)) ≡ json.get (unescape part) (object ms)
named_member part ms = value-behind 1 (member_of (unescape part) ms) ∙ value-member_of (unescape part) ms

indexed : (vs : Items) (i : Option ℕ) → value_of (option_and_then (λ k. element_of k vs) i)
    ≡ option_and_then (λ k. json.at k (array vs)) i
indexed vs None = refl
indexed vs (Some k) = value-element_of k vs

pub indexed_element : (part : List ℕ) (vs : Items)
    → value_of (child part (array vs)) ≡ option_and_then (λ k. json.at k (array vs)) (index_of part)
indexed_element part vs =
    value-behind 1 (option_and_then (λ k. element_of k vs) (index_of part)) ∙ indexed vs (index_of part)
