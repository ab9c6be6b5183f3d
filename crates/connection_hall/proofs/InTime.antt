-- Which peers were waited for too long.
use Rattle.std.proofs.Common.{◌≡◌, ◌≢◌, inl, inr, ℕ, Bool, true, false, Option, Some, None, get_or, refl, sym, ap, ◌∙◌}
use Rattle.std.proofs.Common.{length, ◌<◌, ◌≤◌, ◌-◌, ◌*◌, ◌⊎◌, List, IfSome}
use Rattle.std.specs.Prelude.{IsSome, ◌&&◌, ◌||◌, is_none}
use Rattle.std.proofs.lemmas.Bool.Decides.{eqb_tells, leb_tells}
use Rattle.std.proofs.lemmas.List.{get_or_past}
use Rattle.connection_hall.specs.declared.hall.Hall.{Hall}
use Rattle.connection_hall.specs.declared.served.Served.{Served}
use Rattle.connection_hall.specs.declared.stream.Stream.{Ghosts}
use Rattle.connection_hall.specs.Answers.{Answer}
use Rattle.connection_hall.specs.Comings.{Traffic}
use Rattle.connection_hall.specs.Places.{has_passed_in}
use Rattle.connection_hall.specs.Connections.{arrival, has_passed as has_passed_term}
use Rattle.connection_hall.specs.Deadlines.{patience, has_passed, Awaits}
use Rattle.connection_hall.specs.Lending.{is_short}
use Rattle.connection_hall.specs.Running.{turns, is_late, is_late_at, AreLateCalled, IsInTime, EndsInTime, AreRunning}
use Rattle.connection_hall.specs.Running.{IsInPlace}

none_passed : (limit : Option ℕ) (now : ℕ) → has_passed limit None now ≡ false
none_passed None now = refl
none_passed (Some patience) now = refl

and_false : (a : Bool) → (a && false) ≡ false
and_false true = refl
and_false false = refl

-- one that is not waited for and has no loan is not late
pub not_late : {S : Type 0} (hall : Hall S) (c : Served S) (now : ℕ) → c.since ≡ None → c.loan ≡ None
    → is_late hall c now ≡ false
not_late hall c now since loan =
    rw (
      since,
      loan,
      none_passed (patience hall.deadlines) now,
      and_false (is_none c.ready),
      and_false
          (is_short hall.loans),
    )
    refl

module _ {S : Type 0} where
  pub late_same : (old new : Hall S) (slot : Option (Served S)) (now : ℕ)
      → patience new.deadlines ≡ patience old.deadlines → is_short new.loans ≡ is_short old.loans
      → is_late_at new slot now ≡ is_late_at old slot now
  late_same old new slot now limit short = rw (limit, short) refl

  pub was_late : (old new : Hall S) (was is : Option (Served S)) (now : ℕ)
      → patience new.deadlines ≡ patience old.deadlines → is_short new.loans ≡ is_short old.loans → is ≡ was
      → is_late_at new is now ≡ true → is_late_at old was now ≡ true
  was_late old new was is now limit short same late =
      sym (late_same old new was now limit short)
      ∙ ap (λ (slot : Option (Served S)). is_late_at new slot now) (sym same) ∙ late

  pub late_within : (hall : Hall S) (i now : ℕ) → is_late_at hall (get_or hall.places.items i None) now ≡ true
      → i < length hall.places.items
  late_within hall i now late = elim (leb_tells (length hall.places.items) i) [
    | inl high ↦ absurd (let h : false ≡ true =
        sym (ap (λ (slot : Option (Served S)). is_late_at hall slot now) (get_or_past hall.places.items i None high.1))
        ∙ late in cc)
    | inr low ↦ low.1
  ]

  -- the place is free, or what is in it waits for an answer, or rests in time
  pub free_in_time : (hall : Hall S) (place now : ℕ) → get_or hall.places.items place None ≡ None
      → IsInTime hall place now
  free_in_time hall place now free = inr (inr (rw free refl))

  pub ready_in_time : (hall : Hall S) (place now : ℕ) (c : Served S) → get_or hall.places.items place None ≡ Some c
      → IsSome (arrival c) → IsInTime hall place now
  ready_in_time hall place now c here ready = inr (inl (rw here ready))

  pub rests_in_time : (old new : Hall S) (place now : ℕ) (c : Served S)
      → get_or new.places.items place None ≡ Some c → patience new.deadlines ≡ patience old.deadlines
      → is_short new.loans ≡ is_short old.loans → is_late old c now ≡ false → IsInTime new place now
  rests_in_time old new place now c here limit short early =
      inr (inr (ap (λ (slot : Option (Served S)). is_late_at new slot now) here
      ∙ late_same old new (Some c) now limit short ∙ early))

  pub short_in_time : (hall : Hall S) (place now : ℕ) (c : Served S) → get_or hall.places.items place None ≡ Some c
      → c.since ≡ None → c.loan ≡ None → IsInTime hall place now
  short_in_time hall place now c here since loan =
      inr (inr (ap (λ (slot : Option (Served S)). is_late_at hall slot now) here ∙ not_late hall c now since loan))

  -- those that are late have their turn still, and one that came has its turn too
  pub late_too : (old new : Hall S) (now place : ℕ)
      → ((i : ℕ) → i ≢ place → get_or new.places.items i None ≡ get_or old.places.items i None)
      → turns new place ≡ true → patience new.deadlines ≡ patience old.deadlines
      → is_short new.loans ≡ is_short old.loans
      → ((i : ℕ) → turns old i ≡ true → turns new i ≡ true) → AreLateCalled old now → AreLateCalled new now
  late_too old new now place places here limit short turn called i late = elim (eqb_tells i place) [
    | inl same ↦ ap (λ (i : ℕ). turns new i) same.1 ∙ here
    | inr other ↦ turn i (called i (was_late old new _ _ now limit short (places i other.1) late))
  ]

-- ---- how long to wait

either : (a b : Bool) → (a || b) ≡ true → (a ≡ true) ⊎ (b ≡ true)
either true b is = inl refl
either false b is = inr is

both : (a b : Bool) → (a && b) ≡ true → (a ≡ true) × (b ≡ true)
both true b is = (refl, is)
both false b is = absurd (let e = is in cc)

pub ends_in_time : {S N : Type 0} (s : Ghosts S N) (answers : List Answer) (called : ℕ → Bool) (hall : Hall S)
    (traffic : Option (Traffic S)) (now nanos : ℕ) → AreRunning s answers None called hall traffic
    → ((since : Option ℕ) (late : ℕ) → Awaits hall.deadlines since
    → has_passed (patience hall.deadlines) since late ≡ true → nanos ≤ (late - now) * 1000000)
    → (is_short hall.loans ≡ true → (i late : ℕ) → has_passed_in (get_or hall.places.items i None) late ≡ true
    → nanos ≤ (late - now) * 1000000)
    → EndsInTime hall now nanos
ends_in_time s answers called hall traffic now nanos running deadlines terms i late is =
    by_slot (get_or hall.places.items i None) is (running.in_place i) (λ short. terms short i late)
  where
    by_slot : (slot : Option (Served _)) → is_late_at hall slot late ≡ true
        → IfSome slot (IsInPlace s answers called hall i)
        → (is_short hall.loans ≡ true → has_passed_in slot late ≡ true → nanos ≤ (late - now) * 1000000)
        → nanos ≤ (late - now) * 1000000
    by_slot None is at terms = absurd (let e = is in cc)
    by_slot (Some c) is at terms =
        elim (either (has_passed (patience hall.deadlines) c.since late) (is_short hall.loans && has_passed_term c late)
        is) [
          | inl passed ↦ deadlines c.since late at.noted passed
          | inr term ↦ let is = both (is_short hall.loans) (has_passed_term c late) term in terms is.0 is.1
        ]
