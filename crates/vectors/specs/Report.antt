-- How vectors went, and which of them failed.
use Rattle.std.specs.Prelude.{◌≡◌, ℕ, ◌⊎◌, ◌&&◌, ◌||◌, not, Bool, true, List, [], ◌∷◌, Option, Some, None, is_some}
use Rattle.std.specs.Prelude.{nat_eq}
use Rattle.vectors.specs.declared.report.Outcome.{Outcome}

-- a part that a vector does not have fails nothing
abbrev pub part_passes : Option Bool → Bool
part_passes None = true
part_passes (Some passed) = passed

-- a vector passes if each of its parts does
abbrev pub passes : Outcome → Bool
passes outcome = part_passes outcome.calls && part_passes outcome.script

abbrev pub fails : Outcome → Bool
fails outcome = not (passes outcome)

-- whether the vector is a script alone: 15 and 16 are
abbrev pub is_script : ℕ → Bool
is_script number = nat_eq number 15 || nat_eq number 16

-- whether the vector has a script: 24 and 27 have one besides their calls
abbrev pub has_script : ℕ → Bool
has_script number = is_script number || (nat_eq number 24 || nat_eq number 27)

-- each part that the vector has was run, and no other part
pub record IsWhole (outcome : Outcome) : Type 0 where
  pub calls : is_some outcome.calls ≡ not (is_script outcome.number)
  pub script : is_some outcome.script ≡ has_script outcome.number

-- some of these numbers, each once and in their order
unfoldable pub AreSomeOf : List ℕ → List ℕ → Type 0
AreSomeOf [] some = some ≡ []
AreSomeOf (n ∷ ns) some = AreSomeOf ns some ⊎ ((rest : List ℕ) × (some ≡ n ∷ rest) × AreSomeOf ns rest)
