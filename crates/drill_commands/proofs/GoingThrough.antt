-- Texts to which something is appended for one element of a list after another.
use Rattle.std.proofs.Common.{◌≡◌, ℕ, suc, ◌+◌, ◌<◌, List, [], ◌∷◌, ◌++◌, length, take, slice_index_or, sym, ap, ◌∙◌}
use Rattle.std.proofs.Common.{append_assoc, arith}
use Rattle.std.specs.List.{flat_map}
use Rattle.std.proofs.Math.Seq.{take-suc}
use Rattle.std.proofs.lemmas.List.{append-nil}
use Rattle.std.proofs.lemmas.Grind.{flat_map-append}

pub shown_next : {X : Type 0} (f : X → List ℕ) (xs : List X) (at : ℕ) (or : X) (old text new : List ℕ) → at < length xs
    → text ≡ old ++ flat_map f (take at xs) → new ≡ text ++ f (slice_index_or xs at or)
    → new ≡ old ++ flat_map f (take (at + 1) xs)
shown_next f xs at or old text new within before more =
    let x = slice_index_or xs at or in
    let next : at + 1 ≡ suc at = omega arith in
    let one = flat_map-append f (take at xs) (x ∷ []) ∙ ap (λ t. flat_map f (take at xs) ++ t) (append-nil (f x)) in
    more ∙ ap (λ t. t ++ f x) before ∙ append_assoc old (flat_map f (take at xs)) (f x)
    ∙ ap (λ t. old ++ t) (sym (ap (λ n. flat_map f (take n xs)) next ∙ ap (flat_map f) (take-suc xs at or within)
    ∙ one))
