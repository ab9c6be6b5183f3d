-- What the process keeps that an outbox runs in, and what its calls do.
use Rattle.std.specs.Prelude.{◌≡◌, ◌⊎◌, ℕ, Bool, true, false, List, Option, Some, None, Result, Ok, Err, IsSome, IfSome}
use Rattle.std.specs.Prelude.{IfErr, OnOk, OnErr, if◌then◌else◌}
use Rattle.sqlite_disk.specs.declared.Disk.{Ghosts}
use Rattle.sqlite_disk.specs.declared.Files.{Files}
use Rattle.sqlite_store.specs.declared.store.FileStore.{FileStore}
use Rattle.sqlite.specs.Files.{file_state, over_files}
use Rattle.sqlite.specs.Held.{Held}
use Rattle.sqlite.specs.declared.error.Error.{Error}
use Rattle.command_line.specs.declared.fault.DatabaseFault.{DatabaseFault}
use Rattle.command_line.specs.declared.fault.DatabaseFault.TheVariants.{Missing}
use Rattle.table_rows.specs.Tables.{no_schema}
use Rattle.sqlite.specs.Effect.{Database}
use Rattle.outbox_tables.specs.Earlier.{IsAlone, IsEarlierOf}
use Rattle.outbox_tables.specs.Entries.{Contents, empty}
use Rattle.outbox_tables.specs.Faults.{IsFailure}
use Rattle.outbox_tables.specs.declared.fault.OutboxFault.{OutboxFault}
use Rattle.outbox_tables.specs.Rows.{IsOutboxOf}
use Rattle.outbox_tables.specs.Schema.{IsDeclared}
use Rattle.outbox_tables.specs.Audit.{SaysOutbox}
use Rattle.outbox_core.specs.OutboxParts.{OutboxParts}
use Rattle.database_places.specs.Closing.{IsClosedIn, IsNotClosed, LieGivenUp}
use Rattle.database_places.specs.Left.{HoldWithLog, IsReadIn}
use Rattle.database_places.specs.declared.holding.Holding.TheVariants.{Nothing}
use Rattle.database_places.specs.Opening.{ComesFrom, OpensPlace}
use Rattle.database_places.specs.Places.{Lie, IsHonest}
use Rattle.database_places.specs.Places as place
use Rattle.outbox_process.specs.Dials.{Traffic}
use Rattle.outbox_process.specs.declared.beginning.Beginning.{Beginning}
use Rattle.outbox_process.specs.declared.beginning.Beginning.TheVariants.{Found, Made, Migrated}
use Rattle.outbox_process.specs.declared.errand.Done.{Done}
use Rattle.outbox_process.specs.declared.errand.Errand.{Errand}
use Rattle.outbox_process.specs.declared.fault.NotOpened.{NotOpened}
use Rattle.outbox_process.specs.declared.fault.Why.{Why}
use Rattle.outbox_process.specs.declared.fault.Why.TheVariants.{Files as Unopened, IsCurrent, Migrate}
use Rattle.outbox_process.specs.declared.process.OutboxProcess.{OutboxProcess}
use Rattle.outbox_process.specs.Beginning.{HasContents}
use Rattle.outbox_process.specs.Errands.{DoesErrand}
use Rattle.outbox_process.specs.Faults.{leaves_doubt}
use Rattle.outbox_process.specs.Refusals.{RefusesOutbox}

-- What contracts see of it: the outbox, if it is open; if that is known, the files that lie in its place, if there are
-- some; and whether what is kept is certain: no close and no making failed, and no opening took the files and got no
-- database.
pub record Parts {D : Type 0} (g : Ghosts D) : Type 0 where
  pub outbox : Option (OutboxParts (FileStore D g))
  pub lying : Option (Option (Files D))
  pub is_certain : Bool

abbrev pub parts : {D P : Type 0} {g : Ghosts D} → (P → Option (Option (Files D))) → OutboxProcess D P g → Parts g
parts lying process = record { outbox = process.outbox; lying = lying process.place; is_certain = process.is_certain }

-- ---- what it keeps

-- The log and the database file together hold the outbox of these contents: what was committed and is in the log alone
-- counts.
pub record HoldOutboxWithLog {D : Type 0} (g : Ghosts D) (files : Files D) (it : Contents) : Type 0 where
  pub db : Database
  pub outbox : IsOutboxOf it db
  pub held : HoldWithLog g files db

-- The outbox is open, and this filer's with these entries; or it is closed, and the files in the place hold it, by the
-- log and the database file together.
abbrev pub KeepsBy : {D : Type 0} {g : Ghosts D} → Option (OutboxParts (FileStore D g)) → Option (Option (Files D))
    → Contents → Type 0
KeepsBy (Some outbox) lying it = HasContents over_files outbox it × (lying ≡ Some None)
KeepsBy {D} {g} None lying it = Lie lying (λ files. HoldOutboxWithLog g files it)

-- The process keeps the outbox of these contents, as long as that is certain.
abbrev pub Keeps : {D : Type 0} {g : Ghosts D} → Parts g → Contents → Type 0
Keeps process it = process.is_certain ≡ true → KeepsBy process.outbox process.lying it

-- What a call leaves that changes no entry: the outbox as it was. If the process is certain after the call, it was
-- certain before.
pub record Leaves {D : Type 0} {g : Ghosts D} (old new : Parts g) : Type 0 where
  pub kept : (it : Contents) → Keeps old it → Keeps new it
  pub certain : new.is_certain ≡ true → old.is_certain ≡ true

-- ---- it is opened

-- the database has to be there
abbrev pub has_to_be_there : Beginning → Bool
has_to_be_there Found = true
has_to_be_there (Made filer) = false
has_to_be_there Migrated = true

-- These files hold the outbox of these contents in the version before, and its tables alone, by the log and the
-- database file together.
pub record HoldEarlier {D : Type 0} (g : Ghosts D) (files : Files D) (it : Contents) : Type 0 where
  pub db : Database
  pub earlier : IsEarlierOf it db
  pub alone : IsAlone db.schema
  pub held : HoldWithLog g files db

-- The contents with which an outbox begins: those that are kept; no entries of the filer for which it is made, if the
-- process is closed; or those that it had in the version before.
abbrev pub BeginsWith : {D : Type 0} {g : Ghosts D} → Beginning → Parts g → Contents → Type 0
BeginsWith Found old it = Keeps old it
BeginsWith (Made filer) old it = (old.outbox ≡ None) × IsSome old.lying × (it ≡ empty filer.now)
BeginsWith {D} {g} Migrated old it = (old.outbox ≡ None) × Lie old.lying (λ files. HoldEarlier g files it)

-- Why the process was not opened: the files, which were taken or not, gave no database; or this connection to them gave
-- no outbox, and was given up.
abbrev pub IsNotOpened : {D : Type 0} → Ghosts D → Beginning → Option (Option (Files D)) → Option (Option (Files D))
    → Bool → Why → Type 0
IsNotOpened {D} g beginning old new was_taken why =
    ((fault : DatabaseFault) × (why ≡ Unopened fault)
    × OpensPlace g (has_to_be_there beginning) old new (Err (record { fault = fault; was_taken = was_taken })))
    ⊎ ((conn : Held (FileStore D g)) × (back : Held (FileStore D g)) × ComesFrom old (Some None) conn
    × RefusesOutbox over_files beginning conn back why × LieGivenUp old new back)

-- the files gave no database, for this cause
abbrev pub without_files : DatabaseFault → NotOpened
without_files fault = record { why = Unopened fault; holding = Nothing }

-- why an outbox of this version is not migrated: it has this version, or the files gave no database, or memory or the
-- disk failed
abbrev pub IsOfCurrent : Why → Type 0
IsOfCurrent why =
    ((fault : DatabaseFault) × (why ≡ Unopened fault))
    ⊎ ((why ≡ IsCurrent) ⊎ ((fault : OutboxFault) × (why ≡ Migrate fault) × IsFailure fault))

-- it is open, and its database refused no call
abbrev pub IsUp : {S : Type 0} → Option (OutboxParts S) → Type 0
IsUp (Some outbox) = outbox.has_failed ≡ false
IsUp None = ⊥

-- What an opening finds in this database: it says that it is an outbox, and if its tables are declared as those of one,
-- or are those of the version before and alone, it is one of some contents, which are kept. An outbox is made only in a
-- database in which nothing is declared.
abbrev pub OpensOver : {D : Type 0} {g : Ghosts D} → Beginning → Held (FileStore D g) → Parts g → Type 0
OpensOver Found conn new = ((filer : List ℕ) × SaysOutbox over_files filer conn)
    × (IsDeclared (file_state conn).now.schema
    → (it : Contents) × IsOutboxOf it (file_state conn).now × KeepsBy new.outbox new.lying it)
OpensOver (Made filer) conn new = (file_state conn).now.schema ≡ no_schema
OpensOver Migrated conn new = IsAlone (file_state conn).now.schema
    → (it : Contents) × IsEarlierOf it (file_state conn).now × KeepsBy new.outbox new.lying it

-- What opening the process does.
pub record OpensProcess {D : Type 0} (g : Ghosts D) (beginning : Beginning) (old new : Parts g)
    (result : Result (Unit {0}) NotOpened) : Type 0 where
  pub keeps : IsHonest g → (it : Contents) → BeginsWith beginning old it → OnOk result (Keeps new it)
  -- if it has to be there, and no files lie there, the fault is Missing
  pub absent : old.outbox ≡ None → has_to_be_there beginning ≡ true → old.lying ≡ Some None
      → result ≡ Err (without_files Missing)
  -- whatever files lie there, it is opened over a connection to them, and the database that is read in them
  pub read : IsHonest g → old.outbox ≡ None → (files : Files D) → old.lying ≡ Some (Some files)
      → OnOk result ((conn : Held (FileStore D g)) × ComesFrom old.lying (Some None) conn
      × IsReadIn g files (file_state conn).now × OpensOver beginning conn new)
  -- an outbox of this version is not migrated, and the fault says so, or that the opening failed
  pub current : IsHonest g → beginning ≡ Migrated → old.outbox ≡ None → old.is_certain ≡ true → (it : Contents)
      → Keeps old it → OnOk result ⊥ × IfErr result (λ refusal. IsOfCurrent refusal.why)
  pub certain : OnOk result (new.is_certain ≡ old.is_certain)
  pub is_open : OnOk result (IsSome new.outbox)
  pub up : old.outbox ≡ None → OnOk result (IsUp new.outbox)
  -- a process that is open stays as it is
  pub already : IsSome old.outbox → (new ≡ old) × (result ≡ Ok tt)
  -- after a refusal the process is closed, the fault says why, and the process is as certain as before, unless the
  -- opening may have changed what lies there
  pub refused : IfErr result (λ refusal. (was_taken : Bool)
      × IsNotOpened g beginning old.lying new.lying was_taken refusal.why × (new.outbox ≡ None)
      × (new.is_certain ≡ (if leaves_doubt was_taken refusal.why then false else old.is_certain)))
  -- then it keeps what it kept
  pub unharmed : IsHonest g → OnErr result (Leaves old new)
  -- the files that lay in the place still lie there, as the opening left them; where none lay, none lie
  pub back : IfErr result (λ _. (there : Files D) → old.lying ≡ Some (Some there)
      → (files : Files D) × (new.lying ≡ Some (Some files)))
  pub vacant : IsHonest g → old.outbox ≡ None → old.lying ≡ Some None
      → OnErr result (new.is_certain ≡ true → new.lying ≡ Some None)

-- ---- an errand is done

-- The outbox, which is open, did the errand, and nothing else changed.
pub record PerformsErrand {D : Type 0} {g : Ghosts D} (errand : Errand) (net net' : Traffic)
    (out out' : Option (List ℕ)) (old new : Parts g) (result : Result Done Why) : Type 0 where
  pub before : OutboxParts (FileStore D g)
  pub after : OutboxParts (FileStore D g)
  pub was : old.outbox ≡ Some before
  pub is : new.outbox ≡ Some after
  pub does : DoesErrand over_files errand net net' before after out out' result
  pub lying : new.lying ≡ old.lying
  pub certain : new.is_certain ≡ old.is_certain

-- ---- it is closed

-- closing the connection left these files, with all that was committed in the database file, unless this error came
abbrev pub IsLeftBy : {D : Type 0} (g : Ghosts D) → Held (FileStore D g) → Files D → Result (Unit {0}) Error → Type 0
IsLeftBy g conn files (Ok done) = IsClosedIn g conn files
IsLeftBy g conn files (Err error) = IsNotClosed conn files error

-- What closing the process does.
pub record ClosesProcess {D : Type 0} (g : Ghosts D) (old new : Parts g) (result : Result (Unit {0}) Error)
    : Type 0 where
  pub leaves : IsHonest g → Leaves old new
  pub certain : OnOk result (new.is_certain ≡ old.is_certain)
  pub unsure : OnErr result (new.is_certain ≡ false)
  pub files : IfSome old.outbox (λ outbox. (files : Files D) × place.Leaves old.lying new.lying files
      × IsLeftBy g outbox.conn files result)
  pub is_closed : new.outbox ≡ None
  pub already : old.outbox ≡ None → (new ≡ old) × (result ≡ Ok tt)
