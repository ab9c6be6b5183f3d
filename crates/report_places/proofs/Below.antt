-- What is below a value is found from the token after its bracket.
use Rattle.std.proofs.Common.{◌≡◌, ℕ, ◌+◌, List, ◌∷◌, ◌++◌, drop, get_or, Option, Some, None, option_and_then, refl}
use Rattle.std.proofs.Common.{sym, ap, ◌∙◌, subst, arith}
use Rattle.std.specs.Bool.{⊤}
use Rattle.json.specs.Json as json
use Rattle.json.specs.Json.{Json, Items, Members}
use Rattle.json.specs.Token as token
use Rattle.json.specs.Token.{Token}
use Rattle.json.specs.Tree.{json_tokens, items_tokens, members_tokens}
use Rattle.serde_json.specs.Find.{unescape, index_of}
use Rattle.report_places.specs.Lead.{Found, behind, child, element_of, member_of}
use Rattle.report_places.specs.OnTape.{IsFound}

one_further : (ts : List Token) (at : ℕ) (found : Option Found) (result : Option ℕ) → IsFound ts (at + 1) found result
    → IsFound ts at (behind 1 found) result
one_further ts at found None is = ap (behind 1) is
one_further ts at found (Some t) is = (
  (1 + is.0.0, is.0.1),
  ap (behind 1) is.1,
  record { token = omega (arith, is.2.token); rest = is.2.rest; begins = is.2.begins },
)

-- whether a token opens an object or an array
abbrev IsBrace : Token → Type 0
IsBrace token.begin_object = ⊤
IsBrace token.end_object = ⊥
IsBrace token.begin_array = ⊥
IsBrace token.end_array = ⊥
IsBrace (token.key s) = ⊥
IsBrace (token.string s) = ⊥
IsBrace (token.number s) = ⊥
IsBrace (token.boolean b) = ⊥
IsBrace token.null = ⊥
IsBrace token.bad = ⊥

abbrev IsBracket : Token → Type 0
IsBracket token.begin_object = ⊥
IsBracket token.end_object = ⊥
IsBracket token.begin_array = ⊤
IsBracket token.end_array = ⊥
IsBracket (token.key s) = ⊥
IsBracket (token.string s) = ⊥
IsBracket (token.number s) = ⊥
IsBracket (token.boolean b) = ⊥
IsBracket token.null = ⊥
IsBracket token.bad = ⊥

abbrev BeginsObject : List Token → Type 0
BeginsObject ts = IsBrace (get_or ts 0 token.null)

abbrev BeginsArray : List Token → Type 0
BeginsArray ts = IsBracket (get_or ts 0 token.null)

pub object_below : (ts : List Token) (at : ℕ) (value : Json) (rest : List Token) (found : List ℕ → Option ℕ)
    → drop at ts ≡ token.begin_object ∷ drop (at + 1) ts → drop at ts ≡ json_tokens value ++ rest
    → ((ms : Members) (after : List Token) → drop (at + 1) ts ≡ members_tokens ms ++ after
    → (name : List ℕ) → IsFound ts (at + 1) (member_of name ms) (found name))
    → (part : List ℕ) → IsFound ts at (child part value) (found (unescape part))
object_below ts at json.null rest found first e below part = absurd (subst BeginsObject (sym first ∙ e) tt)
object_below ts at (json.boolean b) rest found first e below part = absurd (subst BeginsObject (sym first ∙ e) tt)
object_below ts at (json.number s) rest found first e below part = absurd (subst BeginsObject (sym first ∙ e) tt)
object_below ts at (json.string s) rest found first e below part = absurd (subst BeginsObject (sym first ∙ e) tt)
object_below ts at (json.array vs) rest found first e below part = absurd (subst BeginsObject (sym first ∙ e) tt)
object_below ts at (json.object ms) rest found first e below part =
    one_further ts at (member_of (unescape part) ms) (found (unescape part))
    (below ms rest (ap (drop 1) (sym first ∙ e)) (unescape part))

by_index : (ts : List Token) (from : ℕ) (vs : Items) (found : ℕ → Option ℕ)
    → ((index : ℕ) → IsFound ts from (element_of index vs) (found index))
    → (index : Option ℕ)
    → IsFound ts from (option_and_then (λ i. element_of i vs) index) (option_and_then found index)
by_index ts from vs found below None = refl
by_index ts from vs found below (Some i) = below i

pub array_below : (ts : List Token) (at : ℕ) (value : Json) (rest : List Token) (found : ℕ → Option ℕ)
    → drop at ts ≡ token.begin_array ∷ drop (at + 1) ts → drop at ts ≡ json_tokens value ++ rest
    → ((vs : Items) (after : List Token) → drop (at + 1) ts ≡ items_tokens vs ++ after
    → (index : ℕ) → IsFound ts (at + 1) (element_of index vs) (found index))
    → (part : List ℕ) → IsFound ts at (child part value) (option_and_then found (index_of part))
array_below ts at json.null rest found first e below part = absurd (subst BeginsArray (sym first ∙ e) tt)
array_below ts at (json.boolean b) rest found first e below part = absurd (subst BeginsArray (sym first ∙ e) tt)
array_below ts at (json.number s) rest found first e below part = absurd (subst BeginsArray (sym first ∙ e) tt)
array_below ts at (json.string s) rest found first e below part = absurd (subst BeginsArray (sym first ∙ e) tt)
array_below ts at (json.object ms) rest found first e below part = absurd (subst BeginsArray (sym first ∙ e) tt)
array_below ts at (json.array vs) rest found first e below part =
    one_further ts at (option_and_then (λ i. element_of i vs) (index_of part)) (option_and_then found (index_of part))
    (by_index ts (at + 1) vs found (below vs rest (ap (drop 1) (sym first ∙ e))) (index_of part))
