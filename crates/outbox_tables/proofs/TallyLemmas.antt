-- What is kept of the rows of `entry`, from one to the next and at the end.
use Rattle.std.proofs.Common.{◌≡◌, ◌≢◌, ◌⊎◌, inl, inr, ◌<◌, ◌≤◌, ◌+◌, ℕ, zero, suc, Bool, true, false, cond, List, []}
use Rattle.std.proofs.Common.{◌∷◌, ◌++◌, length, nat_eq, Option, Some, None, refl, sym, ap, subst, ◌∙◌, arith}
use Rattle.std.specs.Prelude.{◌&&◌}
use Rattle.std.proofs.lemmas.Bool.Decides.{nat_tests}
use Rattle.sqlite.specs.Order.{Row}
use Rattle.outbox_tables.specs.Audit.{is_entry, is_target, with_id, first_damaged}
use Rattle.outbox_tables.specs.Tally.{sound_from}

-- ---- one row more

sound_parts : (id : ℕ) (row : Row) (rows : List Row) → sound_from id (row ∷ rows) ≡ length (row ∷ rows)
    → (is_entry id row ≡ true) × (sound_from (suc id) rows ≡ length rows)
sound_parts id row rows all = go (is_entry id row) all
  where
    go : (b : Bool) → cond b (suc (sound_from (suc id) rows)) 0 ≡ suc (length rows)
        → (b ≡ true) × (sound_from (suc id) rows ≡ length rows)
    go true all = (refl, omega (arith, all))
    go false all = absurd (omega (arith, all))

-- after rows that are all sound
pub sound_on : (id : ℕ) (rows : List Row) (row : Row) (b : Bool) → sound_from id rows ≡ length rows
    → is_entry (id + length rows) row ≡ b → sound_from id (rows ++ row ∷ []) ≡ cond b (suc (length rows)) (length rows)
sound_on id [] row b all is = let here : id + 0 ≡ id = omega arith in
    rw (subst (λ n. is_entry n row ≡ b) here is) refl
sound_on id (r ∷ rows) row b all is =
    let p = sound_parts id r rows all in
    let place : id + length (r ∷ rows) ≡ suc id + length rows = omega arith in
    rw p.0 (ap suc (sound_on (suc id) rows row b p.1 (subst (λ n. is_entry n row ≡ b) place is)) ∙ last b)
  where
    last : (b : Bool) → suc (cond b (suc (length rows)) (length rows))
        ≡ cond b (suc (suc (length rows))) (suc (length rows))
    last true = refl
    last false = refl

-- after one that is not
pub sound_past : (id : ℕ) (rows : List Row) (row : Row) → sound_from id rows ≢ length rows
    → sound_from id (rows ++ row ∷ []) ≡ sound_from id rows
sound_past id [] row apart = absurd (apart refl)
sound_past id (r ∷ rows) row apart = go (is_entry id r) apart (sound_past (suc id) rows row)
  where
    go : (b : Bool) → cond b (suc (sound_from (suc id) rows)) 0 ≢ suc (length rows)
        → (sound_from (suc id) rows ≢ length rows → sound_from (suc id) (rows ++ row ∷ []) ≡ sound_from (suc id) rows)
        → cond b (suc (sound_from (suc id) (rows ++ row ∷ []))) 0 ≡ cond b (suc (sound_from (suc id) rows)) 0
    go true apart more = ap suc (more (λ same. apart (ap suc same)))
    go false apart more = refl

-- ---- the first row that is not sound

-- the targets of so many entries, from this id on, are sound
abbrev pub AreFit : List Row → ℕ → ℕ → Type 0
AreFit targets id count = (place : ℕ) → place < count → is_target (with_id (id + place) targets) ≡ true

-- there are so many rows of entries, or the target at that place is not sound
abbrev pub IsUnsound : List Row → ℕ → List Row → ℕ → Type 0
IsUnsound targets id rows place = (place ≡ sound_from id rows) ⊎ (is_target (with_id (id + place) targets) ≡ false)

module _ (targets : List Row) where
  first_fit : (id count : ℕ) → AreFit targets id (suc count) → is_target (with_id id targets) ≡ true
  first_fit id count fit = let here : id + 0 ≡ id = omega arith in
      subst (λ n. is_target (with_id n targets) ≡ true) here (fit 0 (omega arith))

  later_fit : (id count : ℕ) → AreFit targets id (suc count) → AreFit targets (suc id) count
  later_fit id count fit place low = let next : id + suc place ≡ suc id + place = omega arith in
      subst (λ n. is_target (with_id n targets) ≡ true) next (fit (suc place) (omega (arith, low)))

  -- one more
  pub fit_on : (id count : ℕ) → AreFit targets id count → is_target (with_id (id + count) targets) ≡ true
      → AreFit targets id (count + 1)
  fit_on id count fit here place low = go (nat_eq place count) refl
    where
      go : (b : Bool) → nat_eq place count ≡ b → is_target (with_id (id + place) targets) ≡ true
      go true e = let same : place ≡ count = grind (arith, nat_tests) in rw same here
      go false e = fit place (grind (arith, nat_tests))

  pub damaged_at : (id : ℕ) (rows : List Row) (place : ℕ) → place < length rows → place ≤ sound_from id rows
      → AreFit targets id place → IsUnsound targets id rows place → first_damaged targets id rows ≡ Some (id + place)
  damaged_at id [] place low sound fit why = absurd (omega (arith, low))
  damaged_at id (row ∷ rows) zero low sound fit why = go (is_entry id row) (is_target (with_id id targets)) refl why
    where
      here : id + 0 ≡ id
      here = omega arith

      go : (a b : Bool) → is_target (with_id id targets) ≡ b
          → (0 ≡ cond a (suc (sound_from (suc id) rows)) 0) ⊎ (is_target (with_id (id + 0) targets) ≡ false)
          → ◌≡◌ {A = Option ℕ} (cond (a && b) (first_damaged targets (suc id) rows) (Some id)) (Some (id + 0))
      go true true fits (inl none) = absurd (omega (arith, none))
      go true true fits (inr bad) =
          absurd (let both = sym fits ∙ subst (λ n. is_target (with_id n targets) ≡ false) here bad in cc)
      go true false fits h = ap Some (sym here)
      go false b fits h = ap Some (sym here)
  damaged_at id (row ∷ rows) (suc place) low sound fit why =
      go (is_entry id row) sound why
      (λ so unsound. damaged_at (suc id) rows place (omega (arith, low)) so (later_fit id place fit) unsound)
    where
      next : id + suc place ≡ suc id + place
      next = omega arith

      go : (b : Bool) → suc place ≤ cond b (suc (sound_from (suc id) rows)) 0
          → (suc place ≡ cond b (suc (sound_from (suc id) rows)) 0)
          ⊎ (is_target (with_id (id + suc place) targets) ≡ false)
          → (place ≤ sound_from (suc id) rows → IsUnsound targets (suc id) rows place
          → first_damaged targets (suc id) rows ≡ Some (suc id + place))
          → ◌≡◌ {A = Option ℕ}
          (cond (b && is_target (with_id id targets)) (first_damaged targets (suc id) rows) (Some id))
          (Some (id + suc place))
      go true so (inl end) more =
          rw (first_fit id place fit) (more (omega (arith, so)) (inl (omega (arith, end))) ∙ ap Some (sym next))
      go true so (inr bad) more =
          rw (first_fit id place fit)
          (more (omega (arith, so)) (inr (subst (λ n. is_target (with_id n targets) ≡ false) next bad))
          ∙ ap Some (sym next))
      go false so h more = absurd (omega (arith, so))

  pub none_damaged : (id : ℕ) (rows : List Row) → length rows ≤ sound_from id rows → AreFit targets id (length rows)
      → first_damaged targets id rows ≡ None
  none_damaged id [] sound fit = refl
  none_damaged id (row ∷ rows) sound fit =
      go (is_entry id row) sound (λ so. none_damaged (suc id) rows so (later_fit id (length rows) fit))
    where
      go : (b : Bool) → suc (length rows) ≤ cond b (suc (sound_from (suc id) rows)) 0
          → (length rows ≤ sound_from (suc id) rows → first_damaged targets (suc id) rows ≡ None)
          → ◌≡◌ {A = Option ℕ}
          (cond (b && is_target (with_id id targets)) (first_damaged targets (suc id) rows) (Some id)) None
      go true so more = rw (first_fit id (length rows) fit) (more (omega (arith, so)))
      go false so more = absurd (omega (arith, so))
