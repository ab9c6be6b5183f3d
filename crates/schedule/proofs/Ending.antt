-- Why a run of events ended.
use Rattle.std.proofs.Common.{◌≡◌, ℕ, ◌+◌, ◌-◌, ◌^◌, ◌<◌, suc, List, map, take, length, slice_index_or, option_map}
use Rattle.std.proofs.Common.{refl, sym, ap, ◌∙◌, subst, inl, inr, arith}
use Rattle.std.proofs.lemmas.List.{take-map}
use Rattle.std.proofs.lemmas.Option.{slice_get-map, slice_get-get_or}
use Rattle.filing_world.specs.World.{World, Event}
use Rattle.filing_world.specs.Step.{Run, CannotPlay}
use Rattle.schedule.specs.declared.fault.Fault.{Fault}
use Rattle.schedule.specs.declared.fault.Fault.TheVariants.{NoSuch, Memory, Store, Reopen}
use Rattle.schedule.specs.Played.{next_number, Tells}
use Rattle.schedule.specs.Playing.{AsksOutbox, Closes}
use Rattle.schedule.specs.Ending.{Comes, EndsBy}

-- no count that a u64 has stops the number of the next event
pub next_is : (before : ℕ) → before + 1 < 2 ^ 64 → next_number before ≡ before + 1
next_is before within = omega (arith, within)

-- the event after those that were played comes in the world to which they led
pub comes_next : {X : Type 0} (view : X → Event) (events : List X) (at : ℕ) (or : X) (first world : World)
    → at < length events → Run first (map view (take at events)) world
    → Comes first (map view events) (suc at) world (view (slice_index_or events at or))
comes_next view events at or first world within run = record {
  there = slice_get-map view events at ∙ ap (option_map view) (slice_get-get_or events at or within);
  run =
      let same : at ≡ suc at - 1 = omega arith in
      subst (λ n. Run first (take n (map view events)) world) same
      (subst (λ es. Run first es world) (sym (take-map view at events)) run);
}

module _ (first : World) (events : List Event) where
  pub ends_at : (number : ℕ) (world : World) (event : Event) (fault : Fault) → Comes first events number world event
      → Tells number fault → ((n : ℕ) → fault ≡ NoSuch n → CannotPlay world event)
      → ((n : ℕ) → fault ≡ Store n → AsksOutbox world event)
      → ((n : ℕ) → fault ≡ Reopen n → Closes event × (¬ CannotPlay world event)) → EndsBy first events fault
  ends_at number world event (NoSuch n) comes tells cannot asks closes =
      (world, event, subst (λ k. Comes first events k world event) (sym tells) comes, cannot n refl)
  ends_at number world event Memory comes tells cannot asks closes = tt
  ends_at number world event (Store n) comes tells cannot asks closes =
      inr (world, event, subst (λ k. Comes first events k world event) (sym tells) comes, asks n refl)
  ends_at number world event (Reopen n) comes tells cannot asks closes =
      let stops = closes n refl in
      inr (world, event, subst (λ k. Comes first events k world event) (sym tells) comes, stops.0, stops.1)

  -- where the world was not made
  pub not_made : (fault : Fault) → Tells 0 fault → ((n : ℕ) → fault ≡ NoSuch n → ⊥) → EndsBy first events fault
  not_made (NoSuch n) tells other = absurd (other n refl)
  not_made Memory tells other = tt
  not_made (Store n) tells other = inl tells
  not_made (Reopen n) tells other = inl tells
