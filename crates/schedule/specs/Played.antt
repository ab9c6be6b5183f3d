-- The world as its parts show it, and what ended it.
use Rattle.std.specs.Prelude.{◌≡◌, ℕ, ◌+◌, ◌-◌, ◌^◌, Bool, true, List, Option, Some, min}
use Rattle.sqlite_disk.specs.declared.Disk.{Ghosts}
use Rattle.sqlite_store.specs.declared.store.FileStore.{FileStore}
use Rattle.sqlite.specs.Files.{over_files}
use Rattle.outbox_core.specs.OutboxParts.{OutboxParts, HasEntries}
use Rattle.filing_world.specs.World.{Outbox, Sent, Output, World, numbered}
use Rattle.schedule.specs.Filers.{FilerParts, boxes}
use Rattle.schedule.specs.Served.{Served}
use Rattle.schedule.specs.declared.fault.Fault.{Fault}
use Rattle.schedule.specs.declared.fault.Fault.TheVariants.{NoSuch, Memory, Store, Reopen}

-- the world of these parts
abbrev pub world_of : Served → List Sent → List Output → List FilerParts → World
world_of server sent outputs filers =
    record {
      limit = server.limit;
      done = server.done;
      sent = sent;
      outputs = outputs;
      outboxes = boxes filers;
      up =
          server.up;
    }

-- The world, how many events came to it, the fault that ended it at the last of them, which outboxes are asleep (down,
-- or with a database that refused a call), and whether a fault took the process of an end.
pub record Played : Type 0 where
  pub world : World
  pub events : ℕ
  pub fault : Option Fault
  pub asleep : List Bool
  pub taken : Bool

-- the world is unchanged, except which outboxes are asleep
pub record IsSame (old new : Played) : Type 0 where
  pub world : new.world ≡ old.world
  pub events : new.events ≡ old.events
  pub fault : new.fault ≡ old.fault
  pub taken : new.taken ≡ old.taken

-- one of the outboxes is asleep
abbrev pub HasSleeper : List Bool → Type 0
HasSleeper asleep = (outbox : ℕ) × (numbered asleep outbox ≡ Some true)

-- ---- the numbers of events

-- the number of the event after so many, as far as a u64 counts
abbrev pub next_number : ℕ → ℕ
next_number events = min (events + 1) (2 ^ 64 - 1)

-- the fault names this event, if it names one
abbrev pub Tells : ℕ → Fault → Type 0
Tells number (NoSuch event) = event ≡ number
Tells number Memory = Unit {0}
Tells number (Store event) = event ≡ number
Tells number (Reopen event) = event ≡ number

-- ---- what is lent

-- the outbox of this number is up, and it is this one, with the entries and the filer that it has in the world
pub record IsLent {D : Type 0} {g : Ghosts D} (boxes : List Outbox) (number : ℕ)
    (it : OutboxParts (FileStore D g)) : Type 0 where
  pub box : Outbox
  pub here : numbered boxes number ≡ Some box
  pub up : box.up ≡ true
  pub entries : HasEntries over_files it box.entries
  pub filer : it.filer ≡ box.filer
