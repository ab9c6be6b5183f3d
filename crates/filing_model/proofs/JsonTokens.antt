-- The tokens of an array, item after item.
use Rattle.std.proofs.Common.{◌≡◌, ℕ, suc, ◌+◌, ◌<◌, List, [], ◌∷◌, ◌++◌, Result, Ok, Err, OnOk, length, map, take}
use Rattle.std.proofs.Common.{slice_index_or, refl, sym, ap, ◌∙◌, append_assoc, arith}
use Rattle.std.specs.List.{flat_map}
use Rattle.std.proofs.Math.Seq.{take-suc}
use Rattle.std.proofs.lemmas.List.{append-nil}
use Rattle.std.proofs.lemmas.Grind.{flat_map-append}
use Rattle.json.specs.Print.{print}
use Rattle.json.specs.Token.{Token, begin_array, end_array}
use Rattle.json.specs.Tree.{items_tokens, json_tokens}
use Rattle.serde_json.specs.Data.{Data, array}
use Rattle.serde_json.specs.View.{items_of}
use Rattle.serde_json.specs.Written.{compact_text, items_outline, outline}
use Rattle.serde_json.proofs.Texts.{print-outline}

-- tokens behind others
pub behind : (old front more tokens new : List Token) → tokens ≡ old ++ front → new ≡ tokens ++ more
    → new ≡ old ++ (front ++ more)
behind old front more tokens new before is = is ∙ ap (λ ts. ts ++ more) before ∙ append_assoc old front more

-- the tokens of a list's items, and the end of the array
pub items_in_order : {X : Type 0} (value : X → Data) (xs : List X)
    → items_tokens (items_outline (items_of (map value xs))) ≡ flat_map (λ x. json_tokens (outline (value x))) xs
    ++ end_array ∷ []
items_in_order value [] = refl
items_in_order value (x ∷ xs) =
    ap (λ ts. json_tokens (outline (value x)) ++ ts) (items_in_order value xs)
    ∙ sym (append_assoc (json_tokens (outline (value x))) (flat_map (λ x. json_tokens (outline (value x))) xs)
    (end_array ∷ []))

-- one item more
pub item_next : {X : Type 0} (value : X → Data) (xs : List X) (at : ℕ) (x or : X) (old tokens new : List Token)
    → at < length xs → x ≡ slice_index_or xs at or
    → tokens ≡ old ++ begin_array ∷ flat_map (λ x. json_tokens (outline (value x))) (take at xs)
    → new ≡ tokens ++ json_tokens (outline (value x))
    → new ≡ old ++ begin_array ∷ flat_map (λ x. json_tokens (outline (value x))) (take (at + 1) xs)
item_next {X = X} value xs at x or old tokens new within is before more =
    let f : X → List Token = λ x. json_tokens (outline (value x)) in
    let next : at + 1 ≡ suc at = omega arith in
    let one = flat_map-append f (take at xs) (x ∷ []) ∙ ap (λ t. flat_map f (take at xs) ++ t) (append-nil (f x)) in
    more ∙ ap (λ t. t ++ f x) before ∙ append_assoc old (begin_array ∷ flat_map f (take at xs)) (f x)
    ∙ ap (λ t. old ++ begin_array ∷ t) (sym (ap (λ n. flat_map f (take n xs)) next
    ∙ ap (flat_map f) (take-suc xs at or within ∙ ap (λ y. take at xs ++ y ∷ []) (sym is)) ∙ one))

-- all items, and the end
pub array_whole : {X : Type 0} (value : X → Data) (xs : List X) (old tokens new : List Token)
    → tokens ≡ old ++ begin_array ∷ flat_map (λ x. json_tokens (outline (value x))) xs
    → {E : Type 0} (result : Result (Unit {0}) E) → OnOk result (new ≡ tokens ++ end_array ∷ [])
    → OnOk result (new ≡ old ++ json_tokens (outline (array (items_of (map value xs)))))
array_whole value xs old tokens new all (Err e) end = tt
array_whole value xs old tokens new all (Ok u) end =
    end ∙ ap (λ t. t ++ end_array ∷ []) all
    ∙ append_assoc old (begin_array ∷ flat_map (λ x. json_tokens (outline (value x))) xs) (end_array ∷ [])
    ∙ ap (λ t. old ++ begin_array ∷ t) (sym (items_in_order value xs))

-- the text of a writer that began with nothing and was given a value's tokens
pub whole_text : (value : Data) (before text : List ℕ) (tokens : List Token) → before ≡ []
    → text ≡ before ++ print tokens → tokens ≡ json_tokens (outline value) → text ≡ compact_text value
whole_text value before text tokens none is all =
    is ∙ ap (λ b. b ++ print tokens) none ∙ ap print all ∙ print-outline value
