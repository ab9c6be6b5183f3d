-- What an opening reads, and why a database is not opened.
use Rattle.std.specs.Prelude.{◌≡◌, ◌≢◌, ◌⊎◌, ◌≤◌, ◌^◌, ℕ, false, List, [], ◌∷◌, length, Option, Some, None, MatchOption}
use Rattle.std.specs.Prelude.{Result, IfOk, IfErr, IfSome, IsSomeAnd, OnOk}
use Rattle.sqlite.specs.Order.{Row}
use Rattle.sqlite.specs.Effect.{Database}
use Rattle.sqlite.specs.Schema.{Schema}
use Rattle.sqlite.specs.Store.{Ghosts}
use Rattle.sqlite.specs.Held.{Held, state}
use Rattle.sqlite.specs.State.{HasCleanDisk, Shown, FailsToQuery}
use Rattle.sqlite.specs.declared.error.Error.{Error}
use Rattle.table_rows.specs.Causes.{cause_of}
use Rattle.table_rows.specs.declared.cause.Cause.TheVariants as cause
use Rattle.table_rows.specs.Leaving.{OnlyReads}
use Rattle.table_rows.specs.Standing.{HasCommitted, CommitsNothing, StaysOnOk, KeepsOnErr}
use Rattle.filing_model.specs.Request.{Request}
use Rattle.filing_model.specs.Register.{register}
use Rattle.register_rows.specs.Catalogue.{catalogue_of, view_lines}
use Rattle.register_rows.specs.Dates.{AreDates, SaysMoments, SaysNoMoments, IsUndatedAt}
use Rattle.register_rows.specs.declared.dates.Dates.{Dates}
use Rattle.std.specs.declared.alloc.Global.{Global}
use Rattle.std.specs.declared.vec.Vec.{Vec}
use Rattle.register_rows.specs.Register.{form_row, migrated_row}
use Rattle.register_rows.specs.Schema.{IsDeclared, migrated_table, received_table}
use Rattle.register_tables.specs.declared.select.reads.TheConstants.{ALL_AMENDS, ALL_KEPT, ALL_META, ALL_MIGRATED}
use Rattle.register_tables.specs.declared.select.reads.TheConstants.{ALL_RECEIVED}
use Rattle.register_tables.specs.declared.opening.Counts.{Counts}
use Rattle.register_tables.specs.declared.opening.Beside.{Beside}
use Rattle.register_tables.specs.declared.opening.form.Earlier.{Earlier}
use Rattle.register_tables.specs.declared.opening.form.Earlier.TheVariants.{Second, Third}
use Rattle.register_tables.specs.declared.opening.walk.Totals.{Totals}
use Rattle.register_tables.specs.declared.fault.OpenFault.{OpenFault}
use Rattle.register_tables.specs.declared.fault.OpenFault.TheVariants as fault
use Rattle.register_tables.specs.Earlier.{number_of_form, tables_in, HoldsIn, IsDamaged, SaysAmends}
use Rattle.register_tables.specs.Faults.{IsFailure}
use Rattle.register_tables.specs.Reads.{CanBeRead, DiskFails, HasInOrder, IsKnown, ReadsOurs}
use Rattle.register_tables.specs.Registers.{ForRows, IsRegisterOf}

-- ---- the rows of the tables, each in the order of its key

abbrev pub all_meta : List ℕ
all_meta = ALL_META.now

abbrev pub all_kept : List ℕ
all_kept = ALL_KEPT.now

abbrev pub all_migrated : List ℕ
all_migrated = ALL_MIGRATED.now

abbrev pub all_amends : List ℕ
all_amends = ALL_AMENDS.now

abbrev pub all_received : List ℕ
all_received = ALL_RECEIVED.now

-- the query shows these rows, and the limit on steps stays
pub record IsRead {S : Type 0} (g : Ghosts S) (text : List ℕ) (old new : Held S) (rows : List Row) : Type 0 where
  pub shown : Shown text [] (state g old) (state g new) rows
  pub limit : new.step_limit ≡ old.step_limit

-- ---- in which form

-- `intake_meta` cannot be read, for another cause than memory or disk, or its rows are not the one row of a form; or
-- memory or the disk failed
abbrev pub HasNoForm : {S : Type 0} → Ghosts S → OpenFault → Held S → Held S → Type 0
HasNoForm g fault.NotOurs old new =
    ((error : Error) × FailsToQuery all_meta [] (state g old) (state g new) error × (cause_of error ≡ cause.Other))
    ⊎ ((rows : List Row) × IsRead g all_meta old new rows
    × ((form : Option Earlier) → rows ≢ form_row (number_of_form form) ∷ []))
HasNoForm g (fault.Damaged row) old new = ⊥
HasNoForm g fault.Memory old new = Unit {0}
HasNoForm g fault.Disk old new = DiskFails (state g old) (state g new)

-- whatever else the database has, and however its tables are declared, the rows of `intake_meta` are the one row of
-- this form
abbrev pub SaysForm : {S : Type 0} → Ghosts S → Option Earlier → Held S → Type 0
SaysForm {S} g form conn = (mid : Held S) × IsRead g all_meta conn mid (form_row (number_of_form form) ∷ [])

-- those of a register of this version
abbrev pub SaysRegister : {S : Type 0} → Ghosts S → Held S → Type 0
SaysRegister g conn = SaysForm g None conn

-- ---- the rows beside those of kept requests

-- these rows of `migrated` say that of so many kept requests the first `old_style` keep the answers of an earlier
-- version
pub record SaysOldStyle (kept old_style : ℕ) (migrated : List Row) : Type 0 where
  pub migrated_is : migrated ≡ migrated_row old_style ∷ []
  pub within : old_style ≤ kept

-- they say no such number
abbrev pub SaysNothing : ℕ → List Row → Type 0
SaysNothing kept migrated = (old_style : ℕ) → SaysOldStyle kept old_style migrated → ⊥

-- of the tables that not every form has, these are the rows, as far as this form has them

abbrev pub SaysMigrated : Option Earlier → Option (Vec Row Global) → Database → Type 0
SaysMigrated (Some Second) rows db = rows ≡ None
SaysMigrated form rows db = IsSomeAnd rows (λ it. HasInOrder migrated_table it.items db)

abbrev pub SaysDates : Option Earlier → Option Dates → Database → Type 0
SaysDates (Some form) dates db = dates ≡ None
SaysDates None dates db =
    IsSomeAnd dates (λ it. (rows : List Row) × HasInOrder received_table rows db × AreDates rows it)

abbrev pub SaysBeside : Option Earlier → Beside → Database → Type 0
SaysBeside form beside db =
    SaysMigrated form beside.migrated db × SaysAmends form beside.amends.items db × SaysDates form beside.received db

-- So much is held with these totals. The row of `migrated` fits them, if there is that table, and so do those of
-- `received`.
pub record CountsIn (totals : Totals) (beside : Beside) (counts : Counts) : Type 0 where
  pub kept_is : counts.kept ≡ totals.kept
  pub filings_is : counts.filings ≡ totals.filings
  pub catalogue_is : counts.catalogue ≡ totals.catalogue
  pub old_style_is : MatchOption beside.migrated (counts.old_style ≡ totals.kept)
      (λ rows. SaysOldStyle totals.kept counts.old_style rows.items)
  pub moments_are : IfSome beside.received (λ dates. (rows : List Row) → AreDates rows dates
      → (moments : List (Option ℕ)) × SaysMoments totals.kept rows moments)

-- The row of `migrated` fits no such totals, and the row to report is 0; or it does, if there is that table, and those
-- of `received` are those of no moments.
abbrev pub IsDamagedIn : ℕ → Beside → ℕ → Type 0
IsDamagedIn kept beside row =
    ((row ≡ 0) × IsSomeAnd beside.migrated (λ rows. SaysNothing kept rows.items))
    ⊎ (IfSome beside.migrated (λ rows. (old_style : ℕ) × SaysOldStyle kept old_style rows.items)
    × IsSomeAnd beside.received (λ dates. (rows : List Row) → AreDates rows dates
    → SaysNoMoments kept rows × IsUndatedAt kept rows row))

-- ---- a register in this form

abbrev pub AreWithin : Counts → Type 0
AreWithin counts = (counts.kept ≤ 2 ^ 62) × (counts.filings ≤ counts.kept) × (counts.old_style ≤ counts.kept)

-- the counts are those of these requests
abbrev pub AreCountsOf : Counts → List Request → Type 0
AreCountsOf counts F =
    (counts.kept ≡ length F) × (counts.filings ≡ length (register F)) × (view_lines counts.catalogue ≡ catalogue_of F)

-- the tables of this form hold so much: these requests, and no others
pub record IsHeldIn (form : Option Earlier) (counts : Counts) (db : Database) : Type 0 where
  pub requests : List Request
  pub holds : HoldsIn form db counts.old_style requests
  pub counts_are : AreCountsOf counts requests
  pub only : (old_style : ℕ) (F : List Request) → HoldsIn form db old_style F
      → (counts.old_style ≡ old_style) × AreCountsOf counts F

-- the tables that this form has beside those of every form are declared, in one way or another

abbrev pub KnowsMigrated : Option Earlier → Schema → Type 0
KnowsMigrated (Some Second) schema = Unit {0}
KnowsMigrated form schema = IsKnown schema all_migrated

abbrev pub KnowsAmends : Option Earlier → Schema → Type 0
KnowsAmends (Some Second) schema = Unit {0}
KnowsAmends (Some Third) schema = Unit {0}
KnowsAmends form schema = IsKnown schema all_amends

abbrev pub HasBeside : Option Earlier → Schema → Type 0
HasBeside form schema = KnowsMigrated form schema × KnowsAmends form schema

-- What reading a register in this form does. Nothing is written.
pub record ReadsIn {S : Type 0} (g : Ghosts S) (form : Option Earlier) (old new : Held S)
    (result : Result Counts OpenFault) : Type 0 where
  pub reads : ReadsOurs (tables_in form) g old new result (λ counts db. IsHeldIn form counts db)
      (λ row db. IsDamaged form db row)
  pub has : HasCleanDisk (state g new) → OnOk result (HasBeside form (state g old).now.schema)
  pub known : HasCleanDisk (state g new) → OnOk result (CanBeRead (state g old).now.schema)
  pub few : IfOk result AreWithin
  pub leaves : OnlyReads g old new result

-- ---- why a database is not opened

-- the database says so, and if its tables are declared as those of a register, its rows are those of one
abbrev pub IsReadAsRegister : {S : Type 0} → Ghosts S → Held S → Type 0
IsReadAsRegister g conn = SaysRegister g conn × (IsDeclared (state g conn).now.schema
    → (old_style : ℕ) × (requests : List Request) × IsRegisterOf old_style requests (state g conn).now)

-- What a refusal says of the database: it does not say that it is a register of this version; or it does, and if its
-- tables are declared so, this row is damaged; or memory or the disk failed.
abbrev pub IsRefused : {S : Type 0} → Ghosts S → OpenFault → Held S → Held S → Type 0
IsRefused g fault.NotOurs old new =
    HasNoForm g fault.NotOurs old new ⊎ ((form : Earlier) × SaysForm g (Some form) old)
IsRefused g (fault.Damaged row) old new =
    SaysRegister g old × (IsDeclared (state g old).now.schema → IsDamaged None (state g old).now row)
IsRefused g fault.Memory old new = Unit {0}
IsRefused g fault.Disk old new = DiskFails (state g old) (state g new)

-- ---- what is reported of a register

-- The rows stand for these requests, which are committed, and these are their counts and their catalogue.
abbrev pub IsCounted : {S : Type 0} → Ghosts S → Held S → Counts → ℕ → List Request → Type 0
IsCounted g conn counts old_style F =
    (counts.old_style ≡ old_style) × HasCommitted (IsRegisterOf old_style F) (state g conn) × (counts.kept ≡ length F)
    × (counts.filings ≡ length (register F)) × (view_lines counts.catalogue ≡ catalogue_of F)

-- ---- the whole

-- What reading a register reports, and that it writes nothing.
pub record ReadsRegister {S : Type 0} (g : Ghosts S) (old new : Held S) (result : Result Counts OpenFault)
    : Type 0 where
  -- The rows stand for requests, which are counted, and for no others.
  pub found : HasCleanDisk (state g new) → IsDeclared (state g old).now.schema
      → IfOk result (λ counts. (F : List Request) × IsRegisterOf counts.old_style F (state g old).now
      × HasCommitted (IsRegisterOf counts.old_style F) (state g new) × (counts.kept ≡ length F)
      × (counts.filings ≡ length (register F)) × (view_lines counts.catalogue ≡ catalogue_of F))
  pub only : HasCleanDisk (state g new) → IfOk result (λ counts. ForRows g old (IsCounted g new counts))
  -- However the tables are declared, only a database that says so is read as a register.
  pub says : HasCleanDisk (state g new) → OnOk result (SaysRegister g old)
  pub few : IfOk result AreWithin
  -- A refusal says why. If the rows stand for requests, the cause is memory or the disk.
  pub refused : HasCleanDisk (state g new) → IfErr result (λ fault. IsRefused g fault old new)
  pub sound : HasCleanDisk (state g new) → IfErr result (λ fault. ForRows g old (λ _ _. IsFailure fault))
  -- The connection is as it was, and after a refusal at least what is committed. A crash leaves what it could leave
  -- before.
  pub same : StaysOnOk (state g old) (state g new) result
  pub keeps : KeepsOnErr (state g old) (state g new) result
  pub mode : new.in_transaction ≡ false
  pub survives : CommitsNothing (state g old) (state g new)
  -- However the tables are declared, each of those with the rows of kept requests can be read.
  pub known : HasCleanDisk (state g new) → OnOk result (CanBeRead (state g old).now.schema)
