-- Lists whose elements are named by their numbers, from 1 on.
use Rattle.std.specs.Prelude.{ℕ, zero, suc, List, [], ◌∷◌, slice_get, Option, None}

-- the element of this number
abbrev pub numbered : {X : Type 0} → List X → ℕ → Option X
numbered xs zero = None
numbered xs (suc k) = slice_get xs k

-- the list with the element at this place, from 0 on, changed
abbrev pub changed_at : {X : Type 0} → (X → X) → List X → ℕ → List X
changed_at change [] k = []
changed_at change (x ∷ xs) zero = change x ∷ xs
changed_at change (x ∷ xs) (suc k) = x ∷ changed_at change xs k

-- the list with the element of this number changed
abbrev pub changed : {X : Type 0} → (X → X) → List X → ℕ → List X
changed change xs zero = xs
changed change xs (suc k) = changed_at change xs k

-- the list with x instead of the element of this number
abbrev pub renewed : {X : Type 0} → List X → ℕ → X → List X
renewed xs number x = changed (λ old. x) xs number
