-- The elements of lists by their numbers, as lists grow.
use Rattle.std.proofs.Common.{◌≡◌, ℕ, zero, suc, Bool, true, false, List, [], ◌∷◌, ◌++◌, length, Some, ◌⊎◌, inl, inr}
use Rattle.std.proofs.Common.{refl, sym, ap, ⊎_elim, true≢false}
use Rattle.std.specs.Prelude.{slice_get}
use Rattle.std.specs.List.{list_any}
use Rattle.std.proofs.lemmas.Bool.{cases_Bool}
use Rattle.filing_model.specs.Numbered.{numbered}

module _ {X : Type 0} where
  get_last : (xs : List X) (x : X) (k : ℕ) (y : X) → slice_get (xs ++ x ∷ []) k ≡ Some y
      → (slice_get xs k ≡ Some y) ⊎ ((k ≡ length xs) × (y ≡ x))
  get_last [] x zero y h = let same : y ≡ x = cc in inr (refl, same)
  get_last [] x (suc k) y h = absurd (cc)
  get_last (z ∷ xs) x zero y h = inl h
  get_last (z ∷ xs) x (suc k) y h =
      ⊎_elim (λ (e : slice_get xs k ≡ Some y). inl e) (λ (e : (k ≡ length xs) × (y ≡ x)). inr (ap suc e.0, e.1))
      (get_last xs x k y h)

  -- an element of a list with one more is an element of before, or that one
  pub numbered_last : (xs : List X) (x : X) (n : ℕ) (y : X) → numbered (xs ++ x ∷ []) n ≡ Some y
      → (numbered xs n ≡ Some y) ⊎ ((n ≡ suc (length xs)) × (y ≡ x))
  numbered_last xs x zero y h = inl h
  numbered_last xs x (suc k) y h =
      ⊎_elim (λ (e : slice_get xs k ≡ Some y). inl e) (λ (e : (k ≡ length xs) × (y ≡ x)). inr (ap suc e.0, e.1))
      (get_last xs x k y h)

  get_grows : (xs ys : List X) (k : ℕ) (y : X) → slice_get xs k ≡ Some y → slice_get (xs ++ ys) k ≡ Some y
  get_grows [] ys k y h = absurd (cc)
  get_grows (x ∷ xs) ys zero y h = h
  get_grows (x ∷ xs) ys (suc k) y h = get_grows xs ys k y h

  pub numbered_grows : (xs ys : List X) (n : ℕ) (y : X) → numbered xs n ≡ Some y → numbered (xs ++ ys) n ≡ Some y
  numbered_grows xs ys zero y h = h
  numbered_grows xs ys (suc k) y h = get_grows xs ys k y h

  -- the one behind these
  pub get_here : (front : List X) (x : X) (rest : List X) → slice_get (front ++ x ∷ rest) (length front) ≡ Some x
  get_here [] x rest = refl
  get_here (y ∷ front) x rest = get_here front x rest

  -- what passes stands somewhere
  pub any_found : (p : X → Bool) (xs : List X) → list_any p xs ≡ true
      → (k : ℕ) × (x : X) × (slice_get xs k ≡ Some x) × (p x ≡ true)
  any_found p [] h = absurd (true≢false (sym h))
  any_found p (x ∷ xs) h = ⊎_elim
      (λ (passes : p x ≡ true). (zero, x, refl, passes))
      (λ (fails : p x ≡ false). let later = any_found p xs (rw fails at h) in (suc later.0, later.1, later.2, later.3))
      (cases_Bool (p x))
