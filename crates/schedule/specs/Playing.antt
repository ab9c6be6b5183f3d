-- What playing one event does.
use Rattle.std.specs.Prelude.{◌≡◌, ◌≢◌, ℕ, true, false, List, None, Some, Result, Err, IfErr, OnOk}
use Rattle.filing_model.specs.Stopping.{Before}
use Rattle.filing_world.specs.World.{World, Outbox, Sent, Output, numbered, Event, Put, Send, Stranger, Deliver, Hand}
use Rattle.filing_world.specs.World.{RestartServer, RestartOutbox}
use Rattle.filing_world.specs.Step.{is_no, Step, CannotPlay}
use Rattle.filing_world.specs.Headline.{Holds}
use Rattle.schedule.specs.declared.fault.Fault.{Fault}
use Rattle.schedule.specs.declared.fault.Fault.TheVariants.{NoSuch, Store, Reopen}
use Rattle.schedule.specs.Played.{Played, next_number, Tells}

-- an event that takes the database of an end away, or opens it again: the end stops, or is restarted
abbrev pub Closes : Event → Type 0
Closes (Put outbox key target body) = ⊥
Closes (Send outbox entry) = ⊥
Closes (Stranger bytes) = ⊥
Closes (Deliver item given crash) = is_no crash ≡ false
Closes (Hand output given crash) = is_no crash ≡ false
Closes RestartServer = Unit {0}
Closes (RestartOutbox outbox) = Unit {0}

-- there is an outbox of this number, and it is up
abbrev pub IsUp : List Outbox → ℕ → Type 0
IsUp outboxes outbox = (box : Outbox) × (numbered outboxes outbox ≡ Some box) × (box.up ≡ true)

-- the output answers an entry of this outbox
abbrev pub Answers : World → ℕ → ℕ → Type 0
Answers world output outbox =
    (from : Output) × (item : Sent) × (entry : ℕ) × (numbered world.outputs output ≡ Some from)
    × (numbered world.sent from.item ≡ Some item) × (item.from ≡ Some (outbox, entry))

-- An event in which the database of an outbox that is up is asked: it takes a report, sends a request, or reads a
-- reply.
abbrev pub AsksOutbox : World → Event → Type 0
AsksOutbox world (Put outbox key target body) = IsUp world.outboxes outbox
AsksOutbox world (Send outbox entry) = IsUp world.outboxes outbox
AsksOutbox world (Stranger bytes) = ⊥
AsksOutbox world (Deliver item given crash) = ⊥
AsksOutbox world (Hand output given crash) =
    ((j : ℕ) → crash ≢ Before j) × ((outbox : ℕ) × Answers world output outbox × IsUp world.outboxes outbox)
AsksOutbox world RestartServer = ⊥
AsksOutbox world (RestartOutbox outbox) = ⊥

-- What `play` does with the next event.
pub record Plays (old new : Played) (event : Event) (result : Result (Unit {0}) Fault) : Type 0 where
  -- the world takes a step, and what the headline says holds of it
  pub step : OnOk result (Step old.world event new.world)
  pub holds : OnOk result (Holds new.world)
  -- NoSuch comes only for an event that can't be played
  pub no_such : (n : ℕ) → result ≡ Err (NoSuch n) → old.fault ≡ None → CannotPlay old.world event
  -- Store comes only for an event that asks an outbox
  pub store : (n : ℕ) → result ≡ Err (Store n) → old.fault ≡ None → AsksOutbox old.world event
  -- Reopen comes only for an event that can be played, and stops an end or restarts it
  pub reopen : (n : ℕ) → result ≡ Err (Reopen n) → old.fault ≡ None → Closes event × (¬ CannotPlay old.world event)
  -- events are counted as they come, and a fault names the number of its event
  pub counts : old.fault ≡ None → new.events ≡ next_number old.events
  pub numbered : old.fault ≡ None → IfErr result (Tells new.events)
  -- each end has its process as long as no fault comes
  pub stays : OnOk result (new.taken ≡ old.taken)
  -- after a fault each later call answers that fault, and plays nothing
  pub ended : (fault : Fault) → old.fault ≡ Some fault → (result ≡ Err fault) × (new ≡ old)
  pub stops : IfErr result (λ fault. new.fault ≡ Some fault)
  pub goes_on : OnOk result ((old.fault ≡ None) × (new.fault ≡ None))
