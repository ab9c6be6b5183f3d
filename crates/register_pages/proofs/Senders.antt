-- The kept requests, one after another.
use Rattle.std.proofs.Common.{◌≡◌, ℕ, ◌+◌, ◌<◌, zero, suc, List, [], ◌∷◌, ◌++◌, inl, inr, length, take, refl, ap, subst}
use Rattle.std.proofs.Common.{◌∙◌, arith}
use Rattle.filing_model.specs.Register.{Kept}
use Rattle.register_store.specs.Found.{IsPlaced}

-- the kept request at this index has the place that follows, and comes behind those before it
abbrev pub IsNextKept : ℕ → ℕ → List Kept → Type 0
IsNextKept start at ks = (k : Kept) × IsPlaced start (start + at) ks k × (take (at + 1) ks ≡ take at ks ++ k ∷ [])

pub next_kept : (start at : ℕ) (ks : List Kept) → at < length ks → IsNextKept start at ks
next_kept start at [] low = absurd (omega (arith, low))
next_kept start zero (k ∷ ks) low = (k, inl (omega arith, refl), refl)
next_kept start (suc at) (k ∷ ks) low =
    let later = next_kept (start + 1) at ks (omega (arith, low)) in
    let place : start + 1 + at ≡ start + suc at = omega arith in
    let more : suc at + 1 ≡ suc (at + 1) = omega arith in (
      later.0,
      inr (subst (λ n. IsPlaced (start + 1) n ks later.0) place later.1),
      ap (λ n. take n (k ∷ ks)) more ∙ ap (λ l. k ∷ l) later.2,
    )
