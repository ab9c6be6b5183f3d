-- What is known of the connections of a port that are reported.
use Rattle.std.specs.Prelude.{◌≡◌, ◌⊎◌, ℕ, Bool, List, [], ◌∷◌, ◌++◌, Option, length, map}
use Rattle.std.specs.Option.{ForSome}
use Rattle.connection_hall.specs.Comings.{Gone, Traffic}
use Rattle.connection_hall.specs.declared.why.Why.{Why}

-- a connection that is over, by what was noted: it, how many came before, and why it is over
abbrev pub gone : {S : Type 0} → S × (ℕ × Why) → Gone S
gone noted = record { stream = noted.0; number = noted.1.0; why = noted.1.1 }

-- one was noted for each that came, and each that is over
abbrev pub traffic_of : {S : Type 0} → List (Bool × Bool) → List (S × (ℕ × Why)) → Traffic S
traffic_of came over = record { came = length came; over = map gone over }

-- a filer is noted behind the others, or left out, if there is none, or no memory or room for it
abbrev pub AddsFiler : Option (List ℕ) → List (List ℕ) → List (List ℕ) → Type 0
AddsFiler filer old new = (new ≡ old) ⊎ ForSome filer (λ one. new ≡ old ++ one ∷ [])
