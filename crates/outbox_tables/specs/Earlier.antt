-- Outboxes in the earlier form, which had no targets.
use Rattle.std.specs.Prelude.{◌≡◌, ◌⊎◌, ℕ, Bool, false, List, [], ◌∷◌, length, codes, None, IsTrue}
use Rattle.std.specs.List.{AllByRecursion}
use Rattle.sqlite.specs.Order.{Row}
use Rattle.sqlite.specs.Schema.{Schema}
use Rattle.sqlite.specs.Change.{created}
use Rattle.sqlite.specs.Effect.{Database, IsDatabase}
use Rattle.sqlite.specs.Store.{Ghosts}
use Rattle.sqlite.specs.Tree.{Trees}
use Rattle.sqlite.specs.Held.{Held, state}
use Rattle.sqlite.specs.State.{State, Shown}
use Rattle.sqlite.specs.declared.error.Error.{Error}
use Rattle.sqlite_catalog.specs.Change.{is_used}
use Rattle.table_rows.specs.Rows.{TableHas}
use Rattle.table_rows.specs.Tables.{no_schema}
use Rattle.table_rows.specs.Statements.{Statement, plain, AreCommitted, AreUndone, AreTreesOf}
use Rattle.table_rows.specs.declared.cause.Cause.TheVariants as cause
use Rattle.outbox_tables.specs.declared.migrate.TheConstants.{RAISE_FORM}
use Rattle.outbox_tables.specs.declared.fault.OutboxFault.{OutboxFault}
use Rattle.outbox_tables.specs.declared.fault.OutboxFault.TheVariants as fault
use Rattle.outbox_tables.specs.Schema.{HasCommon, meta_table, entry_table}
use Rattle.outbox_tables.specs.Entries.{Contents, IsOutbox}
use Rattle.outbox_tables.specs.Rows.{form_row, entry_rows, LeavesOutbox}
use Rattle.outbox_tables.specs.Making.{create_target}
use Rattle.outbox_tables.specs.Audit.{entries_text, damaged_row, StopsFor, FindsFiler, IsDamagedAt, IsRefusedIn}
use Rattle.outbox_tables.specs.Faults.{outbox_fault}

-- the two tables and their index alone are declared, as they were made in a database that had none
abbrev pub IsAlone : Schema → Type 0
IsAlone schema = schema ≡ created (created no_schema meta_table) (record entry_table { tree = 0 })

-- a database, as SQLite's files have one, that holds the outbox of these contents in that form
pub record IsEarlierOf (it : Contents) (db : Database) : Type 0 where
  pub sound : IsDatabase db
  pub declared : HasCommon db.schema
  pub meta_is : TableHas db meta_table (form_row 1 it.filer ∷ [])
  pub entries_are : TableHas db entry_table (entry_rows it.entries)
  pub untargeted : AllByRecursion (λ e. e.target ≡ None) it.entries
  pub list : IsOutbox it

-- Whatever outbox of that form stands alone in the database, this holds of it.
abbrev pub ForEarlier : State → (Contents → Type 0) → Type 0
ForEarlier old Holds = (it : Contents) → IsAlone old.now.schema → IsEarlierOf it old.now → Holds it

-- ---- what is read

-- this filer was found, and so many entries, each of which is sound
abbrev pub IsFound : {S : Type 0} → Ghosts S → List ℕ → ℕ → Held S → Held S → Type 0
IsFound {S} g filer count old new =
    (mid : Held S) × FindsFiler 1 filer (state g old) (state g mid) × (rows : List Row)
    × Shown entries_text [] (state g mid) (state g new) rows × (damaged_row [] rows ≡ None) × (count ≡ length rows)

-- why no sound outbox in that form was found
abbrev pub IsNotFound : {S : Type 0} → Ghosts S → OutboxFault → Held S → Held S → Type 0
IsNotFound g =
    IsRefusedIn g 1 (λ row old new. IsDamagedAt [] row (state g old) (state g new))
    (λ old new. StopsFor cause.Disk entries_text (state g old) (state g new))

-- ---- what is written

abbrev pub raise_form : List ℕ
raise_form = RAISE_FORM.now

-- the statements that bring an outbox of that form into the present one
abbrev pub raising : List Statement
raising = plain create_target ∷ plain raise_form ∷ []

-- whether a table, an index or a view has the name of the table that is to be made
abbrev pub is_blocked : Schema → Bool
is_blocked schema = is_used schema (codes "target")

-- this filer and so many entries were found, the name is not in the way, and the statements were run and committed
pub record IsMigrated {S : Type 0} (g : Ghosts S) (filer : List ℕ) (count : ℕ) (old new : Held S) : Type 0 where
  pub mid : Held S
  pub found : IsFound g filer count old mid
  pub free : is_blocked (state g mid).now.schema ≡ false
  pub written : AreCommitted g raising mid new

-- the trees are what both statements make of the outbox of that form that was found
pub record MigratesTo {S : Type 0} (g : Ghosts S) (old : Held S) (trees : Trees) : Type 0 where
  pub filer : List ℕ
  pub count : ℕ
  pub mid : Held S
  pub found : IsFound g filer count old mid
  pub free : is_blocked (state g mid).now.schema ≡ false
  pub written : AreTreesOf g raising mid trees

-- the trees are what both statements make, and those of the same outbox if it stood alone in the database
abbrev pub LeavesMigrated : {S : Type 0} → Ghosts S → Held S → Trees → Type 0
LeavesMigrated g old trees = MigratesTo g old trees × ForEarlier (state g old) (λ it. LeavesOutbox it trees)

-- why an outbox that was found is not migrated: the name is in the way, or a statement failed, or the commit
abbrev pub IsHindered : {S : Type 0} → Ghosts S → OutboxFault → Held S → Held S → Type 0
IsHindered g why old new =
    ((why ≡ fault.NotOurs) × IsTrue (is_blocked (state g old).now.schema) × (old ≡ new))
    ⊎ ((is_blocked (state g old).now.schema ≡ false) × (error : Error) × (why ≡ outbox_fault error)
    × AreUndone g error raising old new)

-- what a refusal says of the database
abbrev pub IsNotMigrated : {S : Type 0} → Ghosts S → OutboxFault → Held S → Held S → Type 0
IsNotMigrated {S} g why old new =
    IsNotFound g why old new
    ⊎ ((filer : List ℕ) × (count : ℕ) × (mid : Held S) × IsFound g filer count old mid × IsHindered g why mid new)
