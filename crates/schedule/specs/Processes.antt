-- What the process of a world's intake keeps in a drawer.
use Rattle.std.specs.Prelude.{◌≡◌, ℕ, Bool, true, false, List, [], Option, Some, None, is_some, not}
use Rattle.sqlite_disk.specs.declared.Disk.{Ghosts}
use Rattle.sqlite_disk.specs.declared.Files.{Files}
use Rattle.sqlite_store.specs.declared.store.FileStore.{FileStore}
use Rattle.sqlite.specs.declared.error.Error.{Error}
use Rattle.http_wire.specs.Wire.{Wire}
use Rattle.filing_model.specs.Request.{Request}
use Rattle.filing_model.specs.Serving.{keeping}
use Rattle.filing_model.specs.Stopping.{Crash}
use Rattle.gateway_server.specs.declared.serving.Partly.{Partly}
use Rattle.gateway_server.specs.Stopping.{ServesConnectionUntil, IsEndedOrStoppedBy}
use Rattle.database_places.specs.Closing.{IsNotClosed}
use Rattle.database_places.specs.declared.drawer.Drawer.{Drawer}
use Rattle.intake_core.specs.declared.intake.Intake.{Intake}
use Rattle.intake_core.specs.Held.{store_of, has_stopped}
use Rattle.register_extracts.specs.declared.fault.Why.{Why}
use Rattle.intake_process.specs.Process.{KeepsBy, IsNotOpened}
use Rattle.intake_process.specs.declared.process.IntakeProcess.{IntakeProcess}
use Rattle.schedule.specs.Causes.{register_cause, close_cause}
use Rattle.schedule.specs.OutboxEnd.{lying_in}
use Rattle.schedule.specs.declared.ends.fault.EndFault.{EndFault}

-- The process keeps these requests, none of which is old-style, and is certain of it.
abbrev pub KeepsSurely : {D : Type 0} {g : Ghosts D} → IntakeProcess D (Drawer D) g → ℕ → List Request → Type 0
KeepsSurely {D} {g} process limit requests =
    (process.is_certain ≡ true) × KeepsBy {g = g} process.intake (lying_in process.place) limit 0 requests

-- the process keeps these requests, unless a fault took it
abbrev pub Keeps : {D : Type 0} {g : Ghosts D} → Option (IntakeProcess D (Drawer D) g) → ℕ → List Request → Type 0
Keeps (Some process) limit requests = KeepsSurely process limit requests
Keeps None limit requests = Unit {0}

-- whether its register is open
abbrev pub is_up : {D : Type 0} {g : Ghosts D} → Option (IntakeProcess D (Drawer D) g) → Bool
is_up (Some process) = is_some process.intake
is_up None = false

-- whether a fault took it
abbrev pub is_taken : {D : Type 0} {g : Ghosts D} → Option (IntakeProcess D (Drawer D) g) → Bool
is_taken process = not (is_some process)

-- whether it gives no answer: its register is closed, or the database refused a call before
abbrev pub is_asleep : {S : Type 0} → Option (Intake S) → Bool
is_asleep (Some intake) = has_stopped intake
is_asleep None = true

-- ---- why it is not opened or closed

-- its register was not opened, or not made, for a fault of this cause
abbrev pub IsNotStarted : {D : Type 0} → Ghosts D → Bool → Option (Option (Files D)) → Option (Option (Files D))
    → EndFault → Type 0
IsNotStarted g has_to_be_there old new why =
    (fault : Why) × (was_taken : Bool) × IsNotOpened g has_to_be_there old new was_taken fault
    × (why ≡ register_cause fault)

-- its register was open, and was not closed for an error of this cause; the files that were left lie in its place
abbrev pub IsNotStopped : {D : Type 0} {g : Ghosts D} → Option (Intake (FileStore D g)) → Option (Option (Files D))
    → EndFault → Type 0
IsNotStopped (Some intake) lying why =
    (files : Files _) × (error : Error) × (lying ≡ Some (Some files)) × IsNotClosed (store_of intake).conn files error
    × (why ≡ close_cause error)
IsNotStopped None lying why = ⊥

-- ---- what it serves

-- A connection was served after these requests, to its end or up to a stop, and the process keeps those that are kept
-- after it.
pub record ServesPart {D : Type 0} {g : Ghosts D} (limit : ℕ) (before : List Request) (from to : Wire) (crash : Crash)
    (process : IntakeProcess D (Drawer D) g) (part : Partly) : Type 0 where
  pub after : List Request
  pub keeps : KeepsSurely process limit after
  pub serves : ServesConnectionUntil (keeping limit [] before after) from to crash part.marks.items part.ended
  pub fault : IsEndedOrStoppedBy from to part.ended
