-- One more change.
use Rattle.std.proofs.Common.{◌≡◌, ℕ, List, [], ◌∷◌, ◌++◌, refl}
use Rattle.database_places.specs.declared.reading.changes.Change.{Change}
use Rattle.database_places.specs.Changes.{laid, laid_over}

pub last : (made : List Change) (change : Change) (at : ℕ) (under : List ℕ)
    → laid_over (made ++ change ∷ []) at under ≡ laid change at (laid_over made at under)
last [] change at under = refl
last (first ∷ later) change at under = last later change at (laid first at under)
