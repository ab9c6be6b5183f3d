-- Bytes that a text stands for.
use Rattle.std.proofs.Common.{◌≡◌, ℕ, List, [], ◌∷◌, ◌++◌, Option, Some, None, option_map, refl, sym, ap}
use Rattle.std.proofs.lemmas.List.{append_assoc}

-- one byte more was read
pub option_map-push : (bytes : List ℕ) (byte : ℕ) (rest : Option (List ℕ))
    → option_map (λ more. bytes ++ more) (option_map (λ more. byte ∷ more) rest)
    ≡ option_map (λ more. (bytes ++ byte ∷ []) ++ more) rest
option_map-push bytes byte None = refl
option_map-push bytes byte (Some more) = ap Some (sym (append_assoc bytes (byte ∷ []) more))
