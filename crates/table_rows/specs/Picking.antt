-- The rows of a table that a statement picks by a test, one after another, and why it stops.
use Rattle.std.specs.Prelude.{true, pos, ◌&&◌, ◌≡◌, ◌⊎◌, ℕ, Bool, List, [], ◌++◌, length, map, filter, IsPermutation}
use Rattle.sqlite.specs.declared.types.Value.TheVariants.{Int}
use Rattle.sqlite.specs.Collation.TheVariants.{Binary}
use Rattle.sqlite.specs.Order.{Row, column}
use Rattle.sqlite.specs.Ops.{binary, is_true}
use Rattle.sqlite_sql.specs.declared.ops.BinaryOp.TheVariants.{Compare}
use Rattle.sqlite_sql.specs.declared.ops.CompareOp.TheVariants.{Eq}
use Rattle.sqlite.specs.Table.{Table}
use Rattle.sqlite.specs.Effect.{Database}
use Rattle.sqlite.specs.State.{State, IsUnchanged, Fails}
use Rattle.sqlite.specs.declared.error.Error.{Error}
use Rattle.table_rows.specs.Rows.{shown}
use Rattle.table_rows.specs.Causes.{cause_of}
use Rattle.table_rows.specs.declared.cause.Cause.TheVariants as cause

-- the first column equals this number, as SQL compares
abbrev pub has_number : ℕ → Row → Bool
has_number number row = is_true (binary (Compare Eq Binary) (column row 0) (Int (pos number))) && true

-- the rows of the table, as SELECT * shows them
abbrev pub rows_in : Database → Table → List Row
rows_in db table = map (shown table) (db.trees table.tree)

-- the rows are those of the table that pass, in some order
abbrev pub Picks : Table → (Row → Bool) → List Row → Database → Type 0
Picks table keep rows db = IsPermutation (filter keep (rows_in db table)) rows

-- the table has so many rows
abbrev pub CountsTo : Table → ℕ → Database → Type 0
CountsTo table count db = count ≡ length (rows_in db table)

-- a statement was not run, for another cause than memory or disk, and nothing was written; or the store failed
abbrev pub IsStopped : State → State → Error → Type 0
IsStopped old new error = (IsUnchanged old new × (cause_of error ≡ cause.Other)) ⊎ Fails old new ⊥ error

-- there are no rows to ask for, or the table has these and no others that pass
abbrev pub Finds : Table → (Row → Bool) → List Row → Database → Type 0
Finds table keep rows db = (rows ≡ []) ⊎ Picks table keep rows db

-- the table has these rows, and so many others
pub record HasLeft (table : Table) (rows : List Row) (count : ℕ) (db : Database) : Type 0 where
  pub rest : List Row
  pub all : IsPermutation (rows ++ rest) (rows_in db table)
  pub many : length rest ≡ count
