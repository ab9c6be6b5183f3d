-- What a migration reads and writes, and why a database is not migrated.
use Rattle.std.specs.Prelude.{◌≡◌, ◌⊎◌, ℕ, pos, false, List, [], ◌∷◌, length, replicate, Some, None, Result, IsTrue}
use Rattle.std.specs.Prelude.{IfOk, IfErr, OnOk, OnErr}
use Rattle.sqlite.specs.Store.{Ghosts}
use Rattle.sqlite.specs.Held.{Held, state}
use Rattle.sqlite.specs.Tree.{Trees}
use Rattle.sqlite.specs.State.{HasCleanDisk, IsUnchanged, Survives}
use Rattle.sqlite.specs.declared.error.Error.{Error}
use Rattle.sqlite.specs.declared.types.Value.TheVariants.{Int}
use Rattle.filing_model.specs.Request.{Request}
use Rattle.filing_model.specs.Register.{register}
use Rattle.table_rows.specs.Causes.{cause_of}
use Rattle.table_rows.specs.Standing.{HasCommitted, AddsNothing, CommitsNothing}
use Rattle.table_rows.specs.Statements.{Statement, plain, AreCommitted, AreUndone, AreTreesOf}
use Rattle.table_rows.specs.Tables.{BeginsWith}
use Rattle.table_rows.specs.declared.cause.Cause.{Cause}
use Rattle.table_rows.specs.declared.cause.Cause.TheVariants as cause
use Rattle.register_tables.specs.declared.migrate.TheConstants.{INSERT_OLD_STYLE, RAISE_FORM}
use Rattle.register_tables.specs.declared.opening.form.Earlier.{Earlier}
use Rattle.register_tables.specs.declared.opening.form.Earlier.TheVariants.{Second, Third, Fourth}
use Rattle.register_tables.specs.declared.fault.OpenFault.{OpenFault}
use Rattle.register_tables.specs.declared.fault.OpenFault.TheVariants as fault
use Rattle.register_tables.specs.declared.opening.Counts.{Counts}
use Rattle.register_rows.specs.Catalogue.{catalogue_of, view_lines}
use Rattle.register_tables.specs.Earlier.{is_blocked, tables_of, ForEarlier, IsAlone, IsDamaged, IsEarlierOf}
use Rattle.register_tables.specs.Faults.{IsFailure}
use Rattle.register_tables.specs.Making.{create_migrated, create_amends, create_received}
use Rattle.register_tables.specs.Opening as opening
use Rattle.register_tables.specs.Opening.{AreWithin, HasBeside, HasNoForm, IsHeldIn, SaysForm}
use Rattle.register_tables.specs.Reads.{DiskFails}
use Rattle.register_rows.specs.Received.{Received}
use Rattle.register_tables.specs.Registers.{ForRows, IsRegisterOf, LeavesOnly, LeavesOnlyReceived}

-- ---- what is read

-- a register in this form was found, and holds so much; nothing was written
pub record IsSurveyed {S : Type 0} (g : Ghosts S) (form : Earlier) (counts : Counts) (old new : Held S) : Type 0 where
  pub same : IsUnchanged (state g old) (state g new)
  pub says : SaysForm g (Some form) old
  pub has : HasBeside (Some form) (state g old).now.schema
  pub counted : BeginsWith (tables_of form) (state g old).now.schema
      → IsHeldIn (Some form) counts (state g old).now

-- no register in an earlier form was found: the database does not say that it is one, or the row that is told is
-- damaged, or memory or the disk failed
abbrev pub IsNotSurveyed : {S : Type 0} → Ghosts S → OpenFault → Held S → Held S → Type 0
IsNotSurveyed g fault.NotOurs old new = HasNoForm g fault.NotOurs old new ⊎ SaysForm g None old
IsNotSurveyed g (fault.Damaged row) old new =
    (form : Earlier) × SaysForm g (Some form) old
    × (BeginsWith (tables_of form) (state g old).now.schema → IsDamaged (Some form) (state g old).now row)
IsNotSurveyed g fault.Memory old new = Unit {0}
IsNotSurveyed g fault.Disk old new = DiskFails (state g old) (state g new)

-- ---- what is written

abbrev pub insert_old_style : List ℕ
insert_old_style = INSERT_OLD_STYLE.now

abbrev pub raise_form : List ℕ
raise_form = RAISE_FORM.now

-- the statements that upgrade a register of this form, with so many requests from before there were problem details
abbrev pub migrating : Earlier → ℕ → List Statement
migrating Second old_style =
    plain create_migrated ∷ plain create_amends ∷ plain create_received
    ∷ (insert_old_style, Int (pos old_style) ∷ []) ∷ plain raise_form ∷ []
migrating Third old_style = plain create_amends ∷ plain create_received ∷ plain raise_form ∷ []
migrating Fourth old_style = plain create_received ∷ plain raise_form ∷ []

-- ---- the whole

-- a register in this form was found, no name is in the way, and its statements were run
pub record IsMigrated {S : Type 0} (g : Ghosts S) (form : Earlier) (counts : Counts) (old new : Held S) : Type 0 where
  pub mid : Held S
  pub surveyed : IsSurveyed g form counts old mid
  pub free : is_blocked (state g mid).now.schema form ≡ false
  pub written : AreCommitted g (migrating form counts.old_style) mid new

-- what a crash may leave: the trees that all the statements for the register that was found make of it
pub record MigratesTo {S : Type 0} (g : Ghosts S) (old : Held S) (trees : Trees) : Type 0 where
  pub form : Earlier
  pub counts : Counts
  pub mid : Held S
  pub surveyed : IsSurveyed g form counts old mid
  pub written : AreTreesOf g (migrating form counts.old_style) mid trees

-- the rows stood for requests in this form, and stand for the same in the present form, with no moments
pub record Migrates {S : Type 0} (g : Ghosts S) (form : Earlier) (counts : Counts) (old new : Held S) : Type 0 where
  pub requests : List Request
  pub were : IsEarlierOf form counts.old_style requests (state g old).now
  pub are : HasCommitted (IsRegisterOf counts.old_style requests) (state g new)
  pub undated : HasCommitted (λ db. Received db (replicate (length requests) None)) (state g new)
  pub kept_is : counts.kept ≡ length requests
  pub filings_is : counts.filings ≡ length (register requests)
  pub catalogue_is : view_lines counts.catalogue ≡ catalogue_of requests

-- a fault of a statement that writes; it says nothing of the rows
abbrev pub write_fault_by : Cause → OpenFault
write_fault_by cause.Memory = fault.Memory
write_fault_by cause.Disk = fault.Disk
write_fault_by cause.Other = fault.Disk

abbrev pub write_fault : Error → OpenFault
write_fault error = write_fault_by (cause_of error)

-- why a register that was found is not migrated: a name is in the way, or the statements failed
abbrev pub IsHindered : {S : Type 0} → Ghosts S → Earlier → ℕ → OpenFault → Held S → Held S → Type 0
IsHindered g form old_style why old new =
    ((why ≡ fault.NotOurs) × IsTrue (is_blocked (state g old).now.schema form) × (old ≡ new))
    ⊎ ((is_blocked (state g old).now.schema form ≡ false) × (error : Error) × (why ≡ write_fault error)
    × AreUndone g error (migrating form old_style) old new)

-- what a refusal says of the database
abbrev pub IsNotMigrated : {S : Type 0} → Ghosts S → OpenFault → Held S → Held S → Type 0
IsNotMigrated {S} g why old new =
    IsNotSurveyed g why old new ⊎ ((form : Earlier) × (counts : Counts) × (mid : Held S)
    × IsSurveyed g form counts old mid × IsHindered g form counts.old_style why mid new)

-- What bringing a register from an earlier form into the present one does, in one transaction.
pub record MigratesRegister {S : Type 0} (g : Ghosts S) (old new : Held S) (result : Result Counts OpenFault)
    : Type 0 where
  pub autocommit : new.in_transaction ≡ false
  -- The rows stood for requests, and stand for them in the present form. They did not stand for other requests than
  -- those that are counted.
  pub migrated : HasCleanDisk (state g new) → (form : Earlier) → IsAlone form (state g old).now.schema
      → IfOk result (λ counts. Migrates g form counts old new)
  pub only : HasCleanDisk (state g new) → IfOk result (λ counts. ForEarlier g old (λ _. opening.IsCounted g new counts))
  pub few : IfOk result AreWithin
  -- The statements of the form that was read, and they alone, were run in one transaction and committed.
  pub ran : HasCleanDisk (state g new) → IfOk result (λ counts. (form : Earlier) × IsMigrated g form counts old new)
  -- A register in the present form is not migrated.
  pub current : HasCleanDisk (state g new) → OnOk result (ForRows g old (λ _ _. ⊥))
  -- A refusal says why. If the rows stand for requests and no name is in the way, the cause is memory, the disk or
  -- another failure of a statement that writes. A refusal leaves the rows as they were.
  pub refused : HasCleanDisk (state g new) → IfErr result (λ fault. IsNotMigrated g fault old new)
  pub sound : HasCleanDisk (state g new)
      → IfErr result (λ fault. (form : Earlier) (old_style : ℕ) (F : List Request)
      → IsEarlierOf form old_style F (state g old).now
      → is_blocked (state g old).now.schema form ≡ false → IsFailure fault)
  pub neither : HasCleanDisk (state g new) → OnErr result (AddsNothing (state g old) (state g new))
  -- A crash in the call leaves what it could leave before, or what all the statements make. A crash after the call
  -- leaves the migrated rows. Nothing is committed by a call that is refused for what the database holds.
  pub crash : Survives (state g old) (state g new) (MigratesTo g old)
  pub unwritten : IfErr result (λ fault. IsFailure fault ⊎ CommitsNothing (state g old) (state g new))
  pub durable : HasCleanDisk (state g new)
      → OnOk result (ForEarlier g old (λ _ old_style F. IsTrue (state g new).is_open
      × LeavesOnly (state g new) old_style F))
  -- None of the requests has a moment then.
  pub undated : HasCleanDisk (state g new)
      → OnOk result (ForEarlier g old (λ _ old_style F.
      LeavesOnlyReceived (state g new) old_style F (replicate (length F) None)))
