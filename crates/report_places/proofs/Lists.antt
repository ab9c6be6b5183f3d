-- Lists and look-ups.
use Rattle.std.proofs.Common.{◌≡◌, ℕ, ◌+◌, List, [], ◌∷◌, ◌++◌, length, map, take, drop, get_or, ◌<◌, Option, Some}
use Rattle.std.proofs.Common.{None, refl, sym, ap, ◌∙◌, arith, add_assoc, zero, suc, Bool, true, false, cond, subst}
use Rattle.std.proofs.Common.{slice_get}
use Rattle.std.proofs.Math.Nat.{zero-add}
use Rattle.std.proofs.lemmas.List.{drop-drop, take_more, map-append}
use Rattle.std.specs.Borrow.{Bor}
use Rattle.json.specs.Json.{Json}
use Rattle.json.specs.Token.{Token}
use Rattle.report_places.specs.Lead.{Found, behind, later_or}
use Rattle.report_places.specs.OnTape.{IsFound, StandsAt}
use Rattle.report_places.specs.Place.{IsPlaceOf, ArePlacesOf}
use Rattle.report_places.specs.declared.place.ValuePlace.{ValuePlace}

pub push_place : (text : List ℕ) (value : Json) (pointers : List (List ℕ)) (places : List ValuePlace) (pointer : List ℕ)
    (place : ValuePlace)
    → ArePlacesOf text value pointers places → IsPlaceOf text value pointer place
    → ArePlacesOf text value (pointers ++ pointer ∷ []) (places ++ place ∷ [])
push_place text value [] [] pointer place are is = (is, tt)
push_place text value [] (q ∷ places) pointer place are is = absurd are
push_place text value (p ∷ pointers) [] pointer place are is = absurd are
push_place text value (p ∷ pointers) (q ∷ places) pointer place are is =
    (are.0, push_place text value pointers places pointer place are.1 is)

pub one_pointer_more : (pointers : List (Bor (List ℕ))) (i : ℕ) (d : Bor (List ℕ)) → i < length pointers
    → map (λ p. p.now) (take (i + 1) pointers) ≡ map (λ p. p.now) (take i pointers) ++ (get_or pointers i d).now ∷ []
one_pointer_more pointers i d h =
    ap (map (λ p. p.now)) (take_more pointers i d h)
    ∙ map-append (λ p. p.now) (take i pointers) (get_or pointers i d ∷ [])

over_front : (front rest : List Token) → drop (length front) (front ++ rest) ≡ rest
over_front [] rest = refl
over_front (t ∷ front) rest = over_front front rest

-- past the tokens of `front`
pub skip_front : (all : List Token) (at next : ℕ) (front rest : List Token) → drop at all ≡ front ++ rest
    → next ≡ at + length front → drop next all ≡ rest
skip_front all at next front rest e n =
    let swapped : next ≡ length front + at = omega arith in
    ap (λ k. drop k all) n ∙ sym (drop-drop (length front) at all) ∙ ap (drop (length front)) e ∙ over_front front rest

pub behind-behind : (a b : ℕ) (o : Option Found) → behind a (behind b o) ≡ behind (a + b) o
behind-behind a b None = refl
behind-behind a b (Some v) = ap (λ n. Some (n, v.1)) (sym (add_assoc a b v.0))

-- a member of the name, before more members
named : (a b : ℕ) (v : Json) (more earlier : Option Found)
    → later_or (behind a (later_or (behind b more) (Some (1, v)))) earlier
    ≡ later_or (behind (a + b) more) (Some (a + 1, v))
named a b v None earlier = refl
named a b v (Some w) earlier = ap (λ n. Some (n, w.1)) (sym (add_assoc a b w.0))

unnamed : (a b : ℕ) (more earlier : Option Found)
    → later_or (behind a (later_or (behind b more) None)) earlier ≡ later_or (behind (a + b) more) earlier
unnamed a b None earlier = refl
unnamed a b (Some w) earlier = ap (λ n. Some (n, w.1)) (sym (add_assoc a b w.0))

-- none is passed, and none was found
pub from_here : (n : ℕ) (o : Option Found) → n ≡ 0 → o ≡ later_or (behind n o) None
from_here n None e = refl
from_here n (Some v) e = let here : v.0 ≡ n + v.0 = omega (arith, e) in
    ap (λ k. Some (k, v.1)) here

-- a member more, of that name or of another
pub one_name_more : (b : Bool) (a size after : ℕ) (v : Json) (more earlier : Option Found) → a + (1 + size) ≡ after
    → later_or (behind a (later_or (behind (1 + size) more) (cond b (Some (1, v)) None))) earlier
    ≡ later_or (behind after more) (cond b (Some (a + 1, v)) earlier)
one_name_more true a size after v more earlier far =
    named a (1 + size) v more earlier ∙ ap (λ n. later_or (behind n more) (Some (a + 1, v))) far
one_name_more false a size after v more earlier far =
    unnamed a (1 + size) more earlier ∙ ap (λ n. later_or (behind n more) earlier) far

-- under its name it is found from now on, and under another what was found before
one_value : (all : List Token) (from : ℕ) (there : Found) (at : ℕ) → StandsAt all from there at
    → (b : Bool) (earlier : Option Found) (before : Option ℕ) → IsFound all from earlier before
    → IsFound all from (cond b (Some there) earlier) (cond b (Some at) before)
one_value all from there at stands true earlier before was = (there, refl, stands)
one_value all from there at stands false earlier before was = was

pub one_value_more : (all : List Token) (from : ℕ) (there : Found) (at : ℕ) → StandsAt all from there at
    → (b : Bool) (earlier : Option Found) (before after : Option ℕ) → after ≡ cond b (Some at) before
    → IsFound all from earlier before → IsFound all from (cond b (Some there) earlier) after
one_value_more all from there at stands b earlier before after is was =
    subst (IsFound all from (cond b (Some there) earlier)) (sym is)
    (one_value all from there at stands b earlier before was)

-- an element more
pub one_element_more : (all : List Token) (from : ℕ) (found : ℕ → Option Found) (tokens : List ℕ) (at : ℕ)
    → ((i : ℕ) → i < length tokens → IsFound all from (found i) (slice_get tokens i))
    → IsFound all from (found (length tokens)) (Some at)
    → (i : ℕ) → i < length (tokens ++ at ∷ []) → IsFound all from (found i) (slice_get (tokens ++ at ∷ []) i)
one_element_more all from found [] at before last zero h = last
one_element_more all from found [] at before last (suc i) h = absurd (omega arith)
one_element_more all from found (t ∷ tokens) at before last zero h = before zero (omega arith)
one_element_more all from found (t ∷ tokens) at before last (suc i) h =
    one_element_more all from (λ n. found (suc n)) tokens at (λ j less. before (suc j) (omega arith)) last i
    (omega arith)

-- there is an element at each index below their number, and at no other
pub each_element : (all : List Token) (from : ℕ) (found : ℕ → Option Found) (tokens : List ℕ)
    → ((k : ℕ) → found (length tokens + k) ≡ None)
    → ((i : ℕ) → i < length tokens → IsFound all from (found i) (slice_get tokens i))
    → (i : ℕ) → IsFound all from (found i) (slice_get tokens i)
each_element all from found [] past before i = subst (λ n. found n ≡ None) (zero-add i) (past i)
each_element all from found (t ∷ tokens) past before zero = before zero (omega arith)
each_element all from found (t ∷ tokens) past before (suc i) =
    each_element all from (λ n. found (suc n)) tokens
    (λ k. let further : length (t ∷ tokens) + k ≡ suc (length tokens + k) = omega arith in
    ap found (sym further) ∙ past k) (λ j less. before (suc j) (omega arith)) i
