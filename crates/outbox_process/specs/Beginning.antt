-- An outbox that begins over a database. Clauses on its entries hold if the disk is clean.
use Rattle.std.specs.Prelude.{◌≡◌, ℕ, List}
use Rattle.sqlite.specs.Store.{Ghosts}
use Rattle.sqlite.specs.Held.{Held, state}
use Rattle.sqlite.specs.State.{HasCleanDisk}
use Rattle.table_rows.specs.Tables.{no_schema}
use Rattle.outbox_tables.specs.Earlier.{ForEarlier, IsAlone, IsEarlierOf}
use Rattle.outbox_tables.specs.Entries.{Contents, empty}
use Rattle.outbox_tables.specs.Rows.{IsOutboxOf}
use Rattle.outbox_tables.specs.Schema.{IsDeclared}
use Rattle.outbox_tables.specs.Audit.{SaysOutbox}
use Rattle.outbox_core.specs.OutboxParts.{OutboxParts, shows, HasEntries}
use Rattle.outbox_process.specs.declared.beginning.Beginning.{Beginning}
use Rattle.outbox_process.specs.declared.beginning.Beginning.TheVariants.{Found, Made, Migrated}

-- the outbox has this filer and these entries
abbrev pub HasContents : {S : Type 0} → Ghosts S → OutboxParts S → Contents → Type 0
HasContents g outbox it = HasEntries g outbox it.entries × (outbox.filer ≡ it.filer)

-- What an outbox has that was found in a database, if the disk is clean.
pub record FindsOutbox {S : Type 0} (g : Ghosts S) (conn : Held S) (outbox : OutboxParts S) : Type 0 where
  -- the database says that it is an outbox of this filer, and if its tables are declared as those of one, its rows are
  -- those of one
  pub is_one : HasCleanDisk (shows g outbox) → SaysOutbox g outbox.filer conn
      × (IsDeclared (state g conn).now.schema
      → (it : Contents) × IsOutboxOf it (state g conn).now × HasContents g outbox it)
  -- it has the filer and the entries of the database's rows
  pub only : HasCleanDisk (shows g outbox) → (it : Contents) → IsOutboxOf it (state g conn).now
      → HasContents g outbox it

-- nothing was declared in the database, and the outbox is this filer's, and has no entry yet
abbrev pub MakesOutbox : {S : Type 0} → Ghosts S → List ℕ → Held S → OutboxParts S → Type 0
MakesOutbox g filer conn outbox =
    (conn.schema ≡ no_schema) × (HasCleanDisk (shows g outbox) → HasContents g outbox (empty filer))

-- the rows of a database in which the tables of the version before stand alone are those of an outbox of that version,
-- and this outbox has what they had
abbrev pub HasEarlier : {S : Type 0} → Ghosts S → Held S → OutboxParts S → Type 0
HasEarlier g conn outbox = (IsAlone (state g conn).now.schema
    → (it : Contents) × IsEarlierOf it (state g conn).now × HasContents g outbox it)
    × ForEarlier (state g conn) (HasContents g outbox)

-- the outbox has what the rows of the version before had, if their tables were alone in the database
abbrev pub MigratesEarlier : {S : Type 0} → Ghosts S → Held S → OutboxParts S → Type 0
MigratesEarlier g conn outbox =
    HasCleanDisk (shows g outbox) → HasCleanDisk (state g conn) × HasEarlier g conn outbox

-- the outbox has what the rows of the version before had, and the rows were no outbox of this version
abbrev pub MigratesOutbox : {S : Type 0} → Ghosts S → Held S → OutboxParts S → Type 0
MigratesOutbox g conn outbox =
    HasCleanDisk (shows g outbox) → HasEarlier g conn outbox × ((it : Contents) → ¬ IsOutboxOf it (state g conn).now)

abbrev pub BeginsOutbox : {S : Type 0} → Ghosts S → Beginning → Held S → OutboxParts S → Type 0
BeginsOutbox g Found conn outbox = FindsOutbox g conn outbox
BeginsOutbox g (Made filer) conn outbox = MakesOutbox g filer.now conn outbox
BeginsOutbox g Migrated conn outbox = MigratesOutbox g conn outbox
