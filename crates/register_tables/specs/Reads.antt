-- What the SELECTs of an opening read.
use Rattle.std.specs.Prelude.{◌≡◌, ◌≢◌, ◌⊎◌, ◌<◌, Bool, true, ℕ, pos, ◌&&◌, List, [], ◌∷◌, length, filter, None, IsTrue}
use Rattle.std.specs.Prelude.{◌^◌, ◌-◌, Option, Some, Result, Ok, IfOk, IfErr, IfSome, OnOk}
use Rattle.sqlite.specs.declared.types.Value.TheVariants.{Int, Text}
use Rattle.sqlite.specs.Collation.TheVariants.{Binary}
use Rattle.sqlite.specs.Order.{Row, column}
use Rattle.sqlite.specs.Ops.{binary, is_true}
use Rattle.sqlite_sql.specs.declared.ops.BinaryOp.TheVariants.{Compare}
use Rattle.sqlite_sql.specs.declared.ops.CompareOp.TheVariants.{Eq, Lt}
use Rattle.sqlite.specs.Effect.{Database}
use Rattle.sqlite.specs.Held.{Held, state}
use Rattle.sqlite.specs.Listing.{understood}
use Rattle.sqlite.specs.Schema.{Schema}
use Rattle.sqlite.specs.State.{State, HasCleanDisk, Fails, FailsToQuery, Shown}
use Rattle.sqlite.specs.Store.{Ghosts}
use Rattle.sqlite.specs.Table.{Table}
use Rattle.sqlite.specs.declared.error.Error.{Error}
use Rattle.sqlite_resolve.specs.declared.compiled.Compiled.{Compiled}
use Rattle.table_rows.specs.Causes.{cause_of}
use Rattle.table_rows.specs.declared.cause.Cause.TheVariants as cause
use Rattle.table_rows.specs.Leaving.{Leaves, OnlyQueries, MayRead}
use Rattle.table_rows.specs.Leaving.Ending.{Stopped}
use Rattle.table_rows.specs.Picking.{rows_in, Picks}
use Rattle.table_rows.specs.Reading.{ReadsRows, RisesBy}
use Rattle.table_rows.specs.Rows.{TableHas}
use Rattle.table_rows.specs.Tables.{BeginsWith}
use Rattle.register_rows.specs.Schema.{IsDeclared, HasCommon, kept_table}
use Rattle.register_tables.specs.declared.fault.OpenFault.{OpenFault}
use Rattle.register_tables.specs.declared.fault.OpenFault.TheVariants as fault
use Rattle.register_tables.specs.declared.select.picks.TheConstants.{FACTS_NUMBERED, FILINGS_OF, FINDINGS_AT, KEPT_AT}
use Rattle.register_tables.specs.Faults.{IsFailure}

-- while the connection is open, the tables of every form are declared as ours
abbrev pub Knows : State → Type 0
Knows s = IsTrue s.is_open → HasCommon s.now.schema

-- while the connection is open, all tables of a register are declared as ours
abbrev pub KnowsAll : State → Type 0
KnowsAll s = IsTrue s.is_open → IsDeclared s.now.schema

abbrev pub every : Row → Bool
every _ = true

abbrev pub whole : Row → Row
whole row = row

abbrev pub by_first : Row → Row
by_first row = column row 0 ∷ []

abbrev pub by_second : Row → Row
by_second row = column row 1 ∷ []

-- the table has these rows, and where it has rows that rise by their first column, it has them in this order
pub record HasInOrder (table : Table) (rows : List Row) (db : Database) : Type 0 where
  pub held : TableHas db table rows
  pub ordered : (wanted : List Row) → TableHas db table wanted → RisesBy by_first wanted → rows ≡ wanted

-- the rows are those of the table, whole and in the order of their first column
abbrev pub ReadsWhole : Table → List Row → State → State → Type 0
ReadsWhole table rows old new = ReadsRows table every by_first whole rows old new

-- it is a text of tables that are declared
abbrev pub IsKnown : Schema → List ℕ → Type 0
IsKnown schema text = (found : Compiled) × (understood schema text ≡ Ok found)

-- if the disk is clean at the end, an answer says that the text is one of tables that are declared
abbrev pub KnowsOnOk : {X : Type 0} → List ℕ → State → State → Result X Error → Type 0
KnowsOnOk text old new result = HasCleanDisk new → OnOk result (IsKnown old.now.schema text)

-- each table with the rows of kept requests can be read, by the columns that a walk asks
pub record CanBeRead (schema : Schema) : Type 0 where
  pub kept : IsKnown schema KEPT_AT.now
  pub finding : IsKnown schema FINDINGS_AT.now
  pub filing : IsKnown schema FILINGS_OF.now
  pub fact : IsKnown schema FACTS_NUMBERED.now

-- if the disk is clean at the end, a refusal is the failure of this text, which has no parameter
abbrev pub FailsOnErr : {X : Type 0} → List ℕ → State → State → Result X Error → Type 0
FailsOnErr text old new result = HasCleanDisk new → IfErr result (FailsToQuery text [] old new)

-- the text counts so many rows, or more than the greatest count if there is none
pub record IsCounted (text : List ℕ) (old new : State) (found : Option ℕ) : Type 0 where
  pub rows : List Row
  pub shown : Shown text [] old new rows
  pub value : IfSome found (λ count. (count < 2 ^ 63 - 1) × (rows ≡ (Int (pos count) ∷ []) ∷ []))
  pub complete : (count : ℕ) → count < 2 ^ 63 - 1 → rows ≡ (Int (pos count) ∷ []) ∷ [] → found ≡ Some count

-- the columns `filer` and `idem` of `kept` equal these texts, as SQL compares
abbrev pub has_texts : List ℕ → List ℕ → Row → Bool
has_texts filer key row =
    is_true (binary (Compare Eq Binary) (column row 1) (Text filer))
    && (is_true (binary (Compare Eq Binary) (column row 2) (Text key)) && true)

-- the second column equals this number, as SQL compares
abbrev pub has_second : ℕ → Row → Bool
has_second number row = is_true (binary (Compare Eq Binary) (column row 1) (Int (pos number))) && true

-- the first column is a number below the first place
abbrev pub is_early : Row → Bool
is_early row = is_true (binary (Compare Lt Binary) (column row 0) (Int (pos 1))) && true

-- a kept row lies before the first place
abbrev pub HasEarly : Database → Type 0
HasEarly db = 0 < length (filter is_early (rows_in db kept_table))

-- the rows of the table that pass are these, and if they rise by their second column, they are in this order
pub record PicksInOrder (table : Table) (keep : Row → Bool) (rows : List Row) (db : Database) : Type 0 where
  pub picks : Picks table keep rows db
  pub ordered : (wanted : List Row) → Picks table keep wanted db → RisesBy by_second wanted → rows ≡ wanted

-- ---- what a call does that asks tables which are declared as ours

-- the connection is open, these tables come first, and no limit on steps is set
pub record IsOurs (tables : List Table) (s : State) : Type 0 where
  pub alive : IsTrue s.is_open
  pub declared : BeginsWith tables s.now.schema
  pub unlimited : s.step_limit ≡ None

-- An answer says this of them. A refusal has its cause in memory or the disk.
pub record AsksOurs {S X : Type 0} (tables : List Table) (g : Ghosts S) (old new : Held S) (result : Result X Error)
    (Says : X → Database → Type 0) : Type 0 where
  pub told : HasCleanDisk (state g new) → IsOurs tables (state g old) → IfOk result (λ x. Says x (state g old).now)
  pub fails : HasCleanDisk (state g new) → IsOurs tables (state g old)
      → IfErr result (λ error. cause_of error ≢ cause.Other)
  pub leaves : OnlyQueries g old new result

-- the disk failed under a query, or earlier, and the store says so
abbrev pub DiskFails : State → State → Type 0
DiskFails old new = (error : Error) × (cause_of error ≡ cause.Disk) × Fails old new ⊥ error

-- a query was refused for the disk, and nothing was written before
abbrev pub StopsForDisk : State → State → Type 0
StopsForDisk old new = (error : Error) × (cause_of error ≡ cause.Disk) × Leaves (Stopped error) old new

-- An answer says this of them. A refusal has its cause in memory or the disk, or they are damaged in this way, and the
-- row is told. The disk is told only if it failed under a query.
pub record ReadsOurs {S X : Type 0} (tables : List Table) (g : Ghosts S) (old new : Held S)
    (result : Result X OpenFault)
    (Says : X → Database → Type 0) (IsBad : ℕ → Database → Type 0) : Type 0 where
  pub told : HasCleanDisk (state g new) → IsOurs tables (state g old) → IfOk result (λ x. Says x (state g old).now)
  pub refused : HasCleanDisk (state g new) → IsOurs tables (state g old)
      → IfErr result (λ why. IsFailure why ⊎ ((row : ℕ) × (why ≡ fault.Damaged row) × IsBad row (state g old).now))
  pub ours : IfErr result (λ why. why ≢ fault.NotOurs)
  pub leaves : MayRead g old new result
  pub disk : IfErr result (λ why. why ≡ fault.Disk → StopsForDisk (state g old) (state g new))

-- no damage is told
abbrev pub Never : ℕ → Database → Type 0
Never row db = ⊥
