-- Where the first that passes stands, and whether one passes.
use Rattle.std.proofs.Common.{◌≡◌, ◌<◌, ◌+◌, suc, ◌||◌, not, cond, ◌∷◌, ℕ, List, [], length, Bool, true, false, refl}
use Rattle.std.proofs.Common.{arith}
use Rattle.std.specs.List.{list_any, position_or_len}

none_at : (b : Bool) (n m : ℕ) (rest : Bool) → cond (not b) (1 + n) 0 ≡ suc m → (n ≡ m → rest ≡ false)
    → (b || rest) ≡ false
none_at true n m rest e h = absurd (omega arith)
none_at false n m rest e h = h (omega arith)

some_at : (b : Bool) (n m : ℕ) (rest : Bool) → cond (not b) (1 + n) 0 < suc m → (n < m → rest ≡ true)
    → (b || rest) ≡ true
some_at true n m rest e h = refl
some_at false n m rest e h = h (omega arith)

pub none_from_position : {X : Type 0} (p : X → Bool) (s : List X) → position_or_len p s ≡ length s
    → list_any p s ≡ false
none_from_position p [] e = refl
none_from_position p (x ∷ xs) e =
    none_at (p x) (position_or_len p xs) (length xs) (list_any p xs) e (none_from_position p xs)

pub some_from_position : {X : Type 0} (p : X → Bool) (s : List X) → position_or_len p s < length s → list_any p s ≡ true
some_from_position p [] e = absurd (omega arith)
some_from_position p (x ∷ xs) e =
    some_at (p x) (position_or_len p xs) (length xs) (list_any p xs) e (some_from_position p xs)
