-- The tokens of a filing in a list.
use Rattle.std.proofs.Common.{◌≡◌, ℕ, List, [], ◌∷◌, ◌++◌, Option, Some, None, map, refl, ap}
use Rattle.json.specs.Tree.{members_tokens}
use Rattle.serde_json.specs.Data.{Members}
use Rattle.serde_json.specs.Written.{members_outline}
use Rattle.filing_model.specs.Reply.{number_member}
use Rattle.filing_model.specs.Writing.{number_tokens}

-- a member with a number, where there is one, and those behind it
pub number_first : (name : List ℕ) (number : Option ℕ) (more : Members)
    → members_tokens (members_outline (number_member name number more)) ≡ number_tokens name number
    ++ members_tokens (members_outline more)
number_first name None more = refl
number_first name (Some n) more = refl

-- two functions of each element, one after the other
pub map_twice : {X Y Z : Type 0} (f : Y → Z) (g : X → Y) (xs : List X) → map f (map g xs) ≡ map (λ x. f (g x)) xs
map_twice f g [] = refl
map_twice f g (x ∷ xs) = ap (λ ys. f (g x) ∷ ys) (map_twice f g xs)
