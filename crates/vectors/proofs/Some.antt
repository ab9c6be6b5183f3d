-- Those of a list that pass a test are some of it.
use Rattle.std.proofs.Common.{◌≡◌, ℕ, Bool, true, false, inl, inr, List, [], ◌∷◌, map, filter, refl, ⊎_elim}
use Rattle.std.proofs.lemmas.Bool.{cases_Bool}
use Rattle.vectors.specs.Report.{AreSomeOf}

pub some_of : {X : Type 0} (name : X → ℕ) (p : X → Bool) (xs : List X)
    → AreSomeOf (map name xs) (map name (filter p xs))
unfolding AreSomeOf
some_of name p [] = refl
some_of name p (x ∷ xs) = ⊎_elim
    (λ (passes : p x ≡ true). rw passes (inr (map name (filter p xs), refl, some_of name p xs)))
    (λ (fails : p x ≡ false). rw fails (inl (some_of name p xs)))
    (cases_Bool (p x))
