-- What is written for an entry that is put.
use Rattle.std.specs.Prelude.{◌≡◌, ◌+◌, ℕ, List, length, IsTrue}
use Rattle.sqlite.specs.Order.{Row}
use Rattle.sqlite.specs.Table.{Table}
use Rattle.sqlite.specs.Tree.{Trees}
use Rattle.sqlite.specs.Effect.{Database, IsDatabase}
use Rattle.sqlite.specs.State.{State}
use Rattle.filing_model.specs.Outbox.{Entry}
use Rattle.table_rows.specs.Rows.{GainsInside}
use Rattle.outbox_tables.specs.Schema.{IsDeclared, outbox_tables}
use Rattle.outbox_tables.specs.Entries.{Contents}
use Rattle.outbox_core.specs.Entries.{with_entry}
use Rattle.outbox_tables.specs.Rows.{HasRows}

-- a table of ours gains these rows inside a transaction, and the others stay
abbrev pub GainsRows : Table → List Row → State → State → Type 0
GainsRows = GainsInside outbox_tables

-- the tables gain the rows of the entry, whose id is that after the last
pub record AddsRows (id : ℕ) (e : Entry) (old new : Database) : Type 0 where
  pub rows : (it : Contents) → id ≡ 1 + length it.entries → HasRows it old → HasRows (with_entry it e) new
  pub sound : IsDeclared old.schema → IsDatabase old → IsDatabase new

-- the tables gain these rows inside a transaction, which goes on
pub record AddsInside (id : ℕ) (e : Entry) (old new : State) : Type 0 where
  pub adds : AddsRows id e old.now new.now
  pub inside : IsTrue new.in_transaction
  pub committed : new.committed ≡ old.committed

-- the tables gained these rows, and that is committed
pub record Adds (id : ℕ) (e : Entry) (old new : State) : Type 0 where
  pub was_open : IsTrue old.is_open
  pub is_open : IsTrue new.is_open
  pub adds : AddsRows id e old.now new.now
  pub committed : new.committed ≡ new.now

-- the trees are those of a database to which the entry was added
pub record AddsTo (id : ℕ) (e : Entry) (old : Database) (trees : Trees) : Type 0 where
  pub db : Database
  pub adds : AddsRows id e old db
  pub is : trees ≡ db.trees
