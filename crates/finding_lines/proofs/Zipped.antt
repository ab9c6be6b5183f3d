-- Two lists, an element of each at a time.
use Rattle.std.proofs.Common.{◌≡◌, ℕ, suc, ◌+◌, ◌<◌, ◌≤◌, List, [], ◌∷◌, ◌++◌, length, take, get_or, refl, sym, ap, ap₂}
use Rattle.std.proofs.Common.{◌∙◌, arith}
use Rattle.std.specs.List.{flat_map, zip}
use Rattle.std.proofs.lemmas.List.{take_more, take_all, flat_map_more}
use Rattle.std.proofs.lemmas.Slice.Zip.{length-zip, get_or-zip}
use Rattle.json.specs.Json.{Json}
use Rattle.report_places.specs.Place.{ArePlacesOf}
use Rattle.report_places.specs.declared.place.ValuePlace.{ValuePlace}

module _ {A B C : Type 0} (f : A × B → List C) (ks : List A) (vs : List B) (i : ℕ) where
  pub pair_more : (k : A) (d : B) (old piece : List C) → i < length ks → i < length vs → k ≡ get_or ks i k
      → old ≡ flat_map f (take i (zip ks vs)) → piece ≡ f (k, get_or vs i d)
      → old ++ piece ≡ flat_map f (take (i + 1) (zip ks vs))
  pair_more k d old piece h g at_i so_far is =
      let v = get_or vs i d in
      let more = take_more (zip ks vs) i (k, d) (omega (arith, length-zip ks vs)) in
      let same : (k, v) ≡ get_or (zip ks vs) i (k, d) = ap (λ x. (x, v)) at_i ∙ sym (get_or-zip ks vs i (k, d) h g) in
      ap₂ (λ a b. a ++ b) so_far is ∙ flat_map_more f [] (take i (zip ks vs)) (k, v)
      ∙ ap (λ q. flat_map f (take i (zip ks vs) ++ q ∷ [])) same ∙ ap (flat_map f) (sym more)

  pub all_pairs : length ks ≤ i → flat_map f (take i (zip ks vs)) ≡ flat_map f (zip ks vs)
  all_pairs h = ap (flat_map f) (take_all i (zip ks vs) (omega (arith, length-zip ks vs)))

pub as_many : (text : List ℕ) (value : Json) (pointers : List (List ℕ)) (places : List ValuePlace)
    → ArePlacesOf text value pointers places → length places ≡ length pointers
as_many text value [] [] are = refl
as_many text value [] (q ∷ places) are = absurd are
as_many text value (p ∷ pointers) [] are = absurd are
as_many text value (p ∷ pointers) (q ∷ places) are = ap suc (as_many text value pointers places are.1)
