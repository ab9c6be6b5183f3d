-- Why a run of events ended.
use Rattle.std.specs.Prelude.{◌≡◌, ℕ, ◌-◌, ◌⊎◌, List, Some, take}
use Rattle.filing_world.specs.World.{World, Event, numbered}
use Rattle.filing_world.specs.Step.{Run, CannotPlay}
use Rattle.schedule.specs.declared.fault.Fault.{Fault}
use Rattle.schedule.specs.declared.fault.Fault.TheVariants.{NoSuch, Memory, Store, Reopen}
use Rattle.schedule.specs.Playing.{AsksOutbox, Closes}

-- the event of this number comes in this world, to which the events before it lead
pub record Comes (first : World) (events : List Event) (number : ℕ) (world : World) (event : Event) : Type 0 where
  pub there : numbered events number ≡ Some event
  pub run : Run first (take (number - 1) events) world

-- Why a run of these events ended. The run came to the event that the fault names. If the fault is NoSuch, that event
-- can't be played; if it is Store, the event asks an outbox; if it is Reopen, it can be played, and stops an end or
-- restarts it. The making of the world counts as 0.
abbrev pub EndsBy : World → List Event → Fault → Type 0
EndsBy first events (NoSuch n) =
    (world : World) × (event : Event) × Comes first events n world event × CannotPlay world event
EndsBy first events Memory = Unit {0}
EndsBy first events (Store n) =
    (n ≡ 0) ⊎ ((world : World) × (event : Event) × Comes first events n world event × AsksOutbox world event)
EndsBy first events (Reopen n) =
    (n ≡ 0) ⊎ ((world : World) × (event : Event) × Comes first events n world event × Closes event
    × (¬ CannotPlay world event))
