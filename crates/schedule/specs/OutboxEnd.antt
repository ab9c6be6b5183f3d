-- What the end of a filer keeps: the process of an outbox in a drawer.
use Rattle.std.specs.Prelude.{◌≡◌, ℕ, Bool, true, false, List, Option, Some, None, is_some, not}
use Rattle.sqlite_disk.specs.declared.Disk.{Ghosts}
use Rattle.sqlite_disk.specs.declared.Files.{Files}
use Rattle.sqlite_store.specs.declared.store.FileStore.{FileStore}
use Rattle.sqlite.specs.declared.error.Error.{Error}
use Rattle.filing_model.specs.Outbox.{Entry}
use Rattle.database_places.specs.Closing.{IsNotClosed}
use Rattle.database_places.specs.Places as place
use Rattle.database_places.specs.declared.drawer.Drawer.{Drawer}
use Rattle.outbox_tables.specs.Entries.{contents_of}
use Rattle.outbox_core.specs.OutboxParts.{OutboxParts}
use Rattle.outbox_process.specs.Process.{KeepsBy, IsNotOpened}
use Rattle.outbox_process.specs.declared.beginning.Beginning.TheVariants.{Found}
use Rattle.outbox_process.specs.declared.fault.Why.{Why}
use Rattle.outbox_process.specs.declared.process.OutboxProcess.{OutboxProcess}
use Rattle.schedule.specs.Causes.{outbox_cause, close_cause}
use Rattle.schedule.specs.declared.ends.fault.EndFault.{EndFault}
use Rattle.schedule.specs.declared.ends.outbox_end.OutboxEnd.{OutboxEnd}
use Rattle.schedule.specs.declared.ends.fault.EndFault.TheVariants.{Reopen}

-- the files that lie in it
abbrev pub lying_in : {D : Type 0} → Drawer D → Option (Option (Files D))
lying_in drawer = Some drawer.files

-- ---- what it keeps

-- The process keeps the outbox of this filer with these entries, and is certain of it.
abbrev pub KeepsSurely : {D : Type 0} {g : Ghosts D} → OutboxProcess D (Drawer D) g → List ℕ → List Entry → Type 0
KeepsSurely {D} {g} process filer entries =
    (process.is_certain ≡ true) × KeepsBy {g = g} process.outbox (lying_in process.place) (contents_of filer entries)

-- it keeps them, unless a fault took it
abbrev pub KeepsIn : {D : Type 0} {g : Ghosts D} → Option (OutboxProcess D (Drawer D) g) → List ℕ → List Entry → Type 0
KeepsIn (Some process) filer entries = KeepsSurely process filer entries
KeepsIn None filer entries = Unit {0}

abbrev pub Keeps : {D : Type 0} {g : Ghosts D} → OutboxEnd D g → List ℕ → List Entry → Type 0
Keeps end filer entries = KeepsIn end.process filer entries

-- whether its outbox is open
abbrev pub is_up_in : {D : Type 0} {g : Ghosts D} → Option (OutboxProcess D (Drawer D) g) → Bool
is_up_in (Some process) = is_some process.outbox
is_up_in None = false

abbrev pub is_up : {D : Type 0} {g : Ghosts D} → OutboxEnd D g → Bool
is_up end = is_up_in end.process

-- whether a fault took it
abbrev pub is_taken_in : {D : Type 0} {g : Ghosts D} → Option (OutboxProcess D (Drawer D) g) → Bool
is_taken_in process = not (is_some process)

abbrev pub is_taken : {D : Type 0} {g : Ghosts D} → OutboxEnd D g → Bool
is_taken end = is_taken_in end.process

-- whether it gives no answer: the outbox is not open, or its database refused a call
abbrev pub gives_none : {S : Type 0} → Option (OutboxParts S) → Bool
gives_none (Some outbox) = outbox.has_failed
gives_none None = true

abbrev pub is_asleep_in : {D : Type 0} {g : Ghosts D} → Option (OutboxProcess D (Drawer D) g) → Bool
is_asleep_in (Some process) = gives_none process.outbox
is_asleep_in None = true

abbrev pub is_asleep : {D : Type 0} {g : Ghosts D} → OutboxEnd D g → Bool
is_asleep end = is_asleep_in end.process

-- this holds of whether the database refused a call, if the outbox is open
abbrev pub IfOpen : {S : Type 0} → Option (OutboxParts S) → (Bool → Type 0) → Type 0
IfOpen (Some outbox) Holds = Holds outbox.has_failed
IfOpen None Holds = Unit {0}

abbrev pub IfUp : {D : Type 0} {g : Ghosts D} → Option (OutboxProcess D (Drawer D) g) → (Bool → Type 0) → Type 0
IfUp (Some process) Holds = IfOpen process.outbox Holds
IfUp None Holds = Unit {0}

-- ---- why it is not opened or closed

-- the outbox that was to lie there was not opened, for a fault of this cause
abbrev pub IsNotOpenedIn : {D : Type 0} → Ghosts D → Option (Option (Files D)) → Option (Option (Files D)) → EndFault
    → Type 0
IsNotOpenedIn g old new why =
    (was_taken : Bool) × (fault : Why) × IsNotOpened g Found old new was_taken fault × (why ≡ outbox_cause fault)

-- the outbox was open, and was not closed for an error of this cause; what the close left lies there
abbrev pub IsNotClosedIn : {D : Type 0} {g : Ghosts D} → Option (OutboxParts (FileStore D g))
    → Option (Option (Files D)) → Option (Option (Files D)) → EndFault → Type 0
IsNotClosedIn (Some outbox) old new why =
    (files : Files _) × (error : Error) × place.Leaves old new files × IsNotClosed outbox.conn files error
    × (why ≡ close_cause error)
IsNotClosedIn None old new why = ⊥

-- What was left in the drawer is given up with the process.
abbrev pub IsNotStoppedBy : {D : Type 0} {g : Ghosts D} → Option (OutboxProcess D (Drawer D) g) → EndFault → Type 0
IsNotStoppedBy {D} (Some process) why =
    (left : Option (Option (Files D))) × IsNotClosedIn process.outbox (lying_in process.place) left why
IsNotStoppedBy None why = why ≡ Reopen

abbrev pub IsNotStopped : {D : Type 0} {g : Ghosts D} → OutboxEnd D g → EndFault → Type 0
IsNotStopped end why = IsNotStoppedBy end.process why

abbrev pub IsNotStartedBy : {D : Type 0} {g : Ghosts D} → Option (OutboxProcess D (Drawer D) g) → EndFault → Type 0
IsNotStartedBy {D} {g} (Some process) why =
    (left : Option (Option (Files D))) × IsNotOpenedIn g (lying_in process.place) left why
IsNotStartedBy None why = why ≡ Reopen

abbrev pub IsNotStarted : {D : Type 0} {g : Ghosts D} → OutboxEnd D g → EndFault → Type 0
IsNotStarted end why = IsNotStartedBy end.process why
