-- How the tables of an outbox are declared.
use Rattle.std.specs.Prelude.{◌≡◌, ◌||◌, Bool, List, [], ◌∷◌, codes}
use Rattle.std.specs.List.{AllByRecursion}
use Rattle.sqlite_value.specs.Keys.{plain}
use Rattle.sqlite.specs.Table.{Table}
use Rattle.sqlite.specs.Schema.{Schema}
use Rattle.sqlite.specs.Kind.TheVariants.{Integer, Text, Blob}
use Rattle.sqlite_catalog.specs.Change.{is_used}
use Rattle.table_rows.specs.Tables.{needed, optional, keyed, BeginsWith}

-- what the database is, in which form, and whose
abbrev pub meta_table : Table
meta_table =
    keyed (codes "outbox_meta") 0 (optional (codes "id") Integer ∷ needed (codes "kind") Text
    ∷ needed (codes "form") Integer ∷ needed (codes "filer") Text ∷ []) [] []

-- the entries, no two with one key
abbrev pub entry_table : Table
entry_table = keyed (codes "entry") 1
    (optional (codes "id") Integer ∷ needed (codes "idem") Text ∷ needed (codes "body") Blob
    ∷ needed (codes "state") Integer ∷ optional (codes "number") Integer ∷ [])
    ((2 ∷ []) ∷ []) (plain ∷ [])

-- the filings that entries are to replace, each under the id of its entry
abbrev pub target_table : Table
target_table = keyed (codes "target") 3 (optional (codes "id") Integer ∷ needed (codes "number") Integer ∷ []) [] []

-- the tables of an outbox in every form
abbrev pub common_tables : List Table
common_tables = meta_table ∷ entry_table ∷ []

-- the tables of an outbox; the tree between them is that of the index that SQLite makes for the keys
abbrev pub outbox_tables : List Table
outbox_tables = meta_table ∷ entry_table ∷ target_table ∷ []

-- The tables of an outbox come first. Others may follow, and no table has a foreign key, which would act when an entry
-- changes.
pub record IsDeclared (schema : Schema) : Type 0 where
  pub begins : BeginsWith outbox_tables schema
  pub free : AllByRecursion (λ t. t.references ≡ []) schema.tables

-- the tables of every form come first
abbrev pub HasCommon : Schema → Type 0
HasCommon = BeginsWith common_tables

-- whether a table, an index or a view has the name of one of our tables
abbrev pub is_taken : Schema → Bool
is_taken schema =
    is_used schema (codes "outbox_meta") || (is_used schema (codes "entry") || is_used schema (codes "target"))
