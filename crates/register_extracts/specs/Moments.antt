-- The moment of one filing among the kept requests of a register, of which each has a place in a list of moments.
use Rattle.std.specs.Prelude.{ℕ, List, [], ◌∷◌, Option, Some, None, if◌then◌else◌}
use Rattle.filing_model.specs.Register.{Kept}
use Rattle.filing_model.specs.Request.{same_target}
use Rattle.register_rows.specs.Register.{number_of}

-- the moment of the filing of this number, if it is known: that of the kept request which was registered under it
abbrev pub moment_of : List Kept → List (Option ℕ) → ℕ → Option ℕ
moment_of [] moments number = None
moment_of (k ∷ ks) [] number = None
moment_of (k ∷ ks) (moment ∷ moments) number =
    if same_target (number_of k.outcome) (Some number) then moment else moment_of ks moments number
