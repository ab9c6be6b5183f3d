-- The kept requests, one after another, and what is known of a register after it was read.
use Rattle.std.proofs.Common.{◌≡◌, ℕ, ◌+◌, ◌<◌, zero, suc, List, [], ◌∷◌, ◌++◌, inl, inr, length, take, refl}
use Rattle.std.proofs.Common.{get_or, None, Option, ap, subst, ◌∙◌, arith}
use Rattle.filing_model.specs.Register.{Kept}
use Rattle.register_store.specs.Found.{IsPlaced}
use Rattle.register_extracts.specs.Digest.{row_of, rows_with}

-- the kept request at this index has the place that follows, and its row, with its moment, comes behind those before it
abbrev pub IsNextKept : ℕ → ℕ → List Kept → List (Option ℕ) → Type 0
IsNextKept start at ks moments =
    (k : Kept) × IsPlaced start (start + at) ks k
    × (take (at + 1) (rows_with ks moments) ≡ take at (rows_with ks moments) ++ row_of k (get_or moments at None) ∷ [])

pub next_kept : (start at : ℕ) (ks : List Kept) (moments : List (Option ℕ)) → at < length ks → at < length moments
    → IsNextKept start at ks moments
next_kept start at [] moments low few = absurd (omega (arith, low))
next_kept start at (k ∷ ks) [] low few = absurd (omega (arith, few))
next_kept start zero (k ∷ ks) (moment ∷ moments) low few = (k, inl (omega arith, refl), refl)
next_kept start (suc at) (k ∷ ks) (moment ∷ moments) low few =
    let later = next_kept (start + 1) at ks moments (omega (arith, low)) (omega (arith, few)) in
    let place : start + 1 + at ≡ start + suc at = omega arith in
    let more : suc at + 1 ≡ suc (at + 1) = omega arith in (
      later.0,
      inr (subst (λ n. IsPlaced (start + 1) n ks later.0) place later.1),
      ap (λ n. take n (row_of k moment ∷ rows_with ks moments)) more ∙ ap (λ l. row_of k moment ∷ l) later.2,
    )
