-- The rows of the three tables.
use Rattle.std.specs.Prelude.{◌≡◌, ℕ, suc, pos, map, List, [], ◌∷◌, ◌++◌, codes, Option, Some, None}
use Rattle.sqlite.specs.declared.types.Value.{Value}
use Rattle.sqlite.specs.declared.types.Value.TheVariants.{Null, Int, Text, Blob}
use Rattle.sqlite.specs.Order.{Row}
use Rattle.sqlite.specs.Tree.{Trees}
use Rattle.sqlite.specs.Effect.{Database, IsDatabase}
use Rattle.filing_model.specs.Outbox.{Entry, State, Open, Confirmed, Refused, Clashed}
use Rattle.table_rows.specs.Rows.{TableHas}
use Rattle.outbox_tables.specs.Schema.{IsDeclared, meta_table, entry_table, target_table}
use Rattle.outbox_tables.specs.Entries.{Contents, IsOutbox, numbered}

-- the code of a state in the table
abbrev pub code_of : State → ℕ
code_of Open = 0
code_of (Confirmed number) = 1
code_of Refused = 2
code_of Clashed = 3

-- the number of a confirmed entry
abbrev pub number_of : State → Value
number_of (Confirmed number) = Int (pos number)
number_of _ = Null

-- the one row of `outbox_meta`: an outbox, in this form, of this filer
abbrev pub form_row : ℕ → List ℕ → Row
form_row form filer = Int (pos 1) ∷ Text (codes "outbox") ∷ Int (pos form) ∷ Text filer ∷ []

-- the one row of `outbox_meta`: an outbox of this filer, in the form of these tables
abbrev pub meta_row : List ℕ → Row
meta_row = form_row 2

-- the row of an entry
abbrev pub entry_row : ℕ × Entry → Row
entry_row (id, e) = Int (pos id) ∷ Text e.key ∷ Blob e.body ∷ Int (pos (code_of e.state)) ∷ number_of e.state ∷ []

abbrev pub entry_rows : List Entry → List Row
entry_rows entries = map entry_row (numbered entries)

-- the row of a target under the id of its entry, if there is one
abbrev pub target_row : ℕ → Option ℕ → List Row
target_row id None = []
target_row id (Some number) = (Int (pos id) ∷ Int (pos number) ∷ []) ∷ []

-- the rows of the targets of these entries, the first of which has this id
abbrev pub target_rows_from : ℕ → List Entry → List Row
target_rows_from id [] = []
target_rows_from id (e ∷ es) = target_row id e.target ++ target_rows_from (suc id) es

abbrev pub target_rows : List Entry → List Row
target_rows = target_rows_from 1

-- the three tables have these rows, each once and in any order, and no others
pub record HasRows (it : Contents) (db : Database) : Type 0 where
  pub declared : IsDeclared db.schema
  pub meta_is : TableHas db meta_table (meta_row it.filer ∷ [])
  pub entries_are : TableHas db entry_table (entry_rows it.entries)
  pub targets_are : TableHas db target_table (target_rows it.entries)

-- a database, as SQLite's files have one, that holds the outbox of these contents
pub record IsOutboxOf (it : Contents) (db : Database) : Type 0 where
  pub sound : IsDatabase db
  pub rows : HasRows it db
  pub list : IsOutbox it

-- an open after a crash that left these trees finds these contents
pub record LeavesOutbox (it : Contents) (trees : Trees) : Type 0 where
  pub db : Database
  pub is : trees ≡ db.trees
  pub outbox : IsOutboxOf it db
