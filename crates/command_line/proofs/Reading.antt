-- Reads one after another.
use Rattle.std.proofs.Common.{◌≡◌, ◌+◌, ℕ, suc, List, Option, refl, subst, arith}
use Rattle.command_line.specs.Reading.{GivesBytes, ReadsGive}

module _ {R : Type 0} (left : R → Option (List ℕ)) (failures : R → ℕ) where
  -- none was made
  pub reads_none : (reader : R) → ReadsGive left failures 0 reader reader
  unfolding ReadsGive
  reads_none reader = refl

  -- one more
  pub reads_more : (count count' : ℕ) (before between after : R) → count' ≡ count + 1
      → ReadsGive left failures count before between → GivesBytes left failures between after
      → ReadsGive left failures count' before after
  unfolding ReadsGive
  reads_more count count' before between after next reads gives =
      let next' : suc count ≡ count' = omega (arith, next) in
      subst (λ n. ReadsGive left failures n before after) next' (between, reads, gives)
