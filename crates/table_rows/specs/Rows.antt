-- The rows of a table, and what a statement makes of them.
use Rattle.std.specs.Prelude.{◌≡◌, ◌≢◌, ℕ, ◌+◌, List, [], ◌∷◌, ◌++◌, map, length, Option, Some, None, Result, Ok, Err}
use Rattle.std.specs.Prelude.{IsTrue, IsPermutation}
use Rattle.std.specs.List.{range_with_len, AllByRecursion}
use Rattle.sqlite.specs.Order.{Row, column}
use Rattle.sqlite.specs.Table.{Table}
use Rattle.sqlite.specs.Effect.{Database, IsDatabase}
use Rattle.sqlite.specs.State.{State}
use Rattle.sqlite.specs.declared.error.Error.{Error}
use Rattle.sqlite.specs.declared.error.Error.TheVariants.{QueryReturnedNoRows}
use Rattle.sqlite_schema.specs.Names.{place_of}
use Rattle.table_rows.specs.Tables.{BeginsWith}

-- the columns of a row, as SELECT * shows them
abbrev pub shown : Table → Row → Row
shown table row = map (λ at. column row (place_of table at)) (range_with_len 0 (length table.columns))

-- the table has these rows, each once and in any order
abbrev pub TableHas : Database → Table → List Row → Type 0
TableHas db table rows = IsPermutation rows (map (shown table) (db.trees table.tree))

-- each of our tables beside this one has the rows that it had
abbrev pub KeepsOthers : List Table → Table → Database → Database → Type 0
KeepsOthers ours table old new = AllByRecursion (λ t. t.tree ≢ table.tree → new.trees t.tree ≡ old.trees t.tree) ours

-- the table gains these rows, and the others stay; a database that SQLite's files can have stays one
pub record Gains (ours : List Table) (table : Table) (rows : List Row) (old new : Database) : Type 0 where
  pub schema_is : new.schema ≡ old.schema
  pub sound : IsDatabase old → IsDatabase new
  pub gained : IsPermutation (rows ++ map (shown table) (old.trees table.tree))
      (map (shown table) (new.trees table.tree))
  pub others : KeepsOthers ours table old new

-- inside a transaction, which goes on, the table gains these rows
pub record GainsInside (ours : List Table) (table : Table) (rows : List Row) (old new : State) : Type 0 where
  pub gains : BeginsWith ours old.now.schema → Gains ours table rows old.now new.now
  pub inside : IsTrue new.in_transaction
  pub committed : new.committed ≡ old.committed

-- a row for each of a list, with its place counted from `at`
abbrev pub counted_from : {X : Type 0} → (ℕ → X → Row) → ℕ → List X → List Row
counted_from row at [] = []
counted_from row at (x ∷ xs) = row at x ∷ counted_from row (at + 1) xs

-- what the query answered, where `None` says that it has no row
abbrev pub row_or_none : Result (Option Row) Error → Result Row Error
row_or_none (Ok (Some row)) = Ok row
row_or_none (Ok None) = Err QueryReturnedNoRows
row_or_none (Err e) = Err e
