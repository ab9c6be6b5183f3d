-- How the tables of a register are declared.
use Rattle.std.specs.Prelude.{Bool, List, [], ◌∷◌, ◌++◌, codes}
use Rattle.std.specs.List.{list_any}
use Rattle.sqlite_value.specs.Keys.{plain}
use Rattle.sqlite.specs.Table.{Table}
use Rattle.sqlite.specs.Schema.{Schema}
use Rattle.sqlite.specs.Kind.TheVariants.{Integer, Text, Blob}
use Rattle.sqlite_catalog.specs.Change.{is_used}
use Rattle.table_rows.specs.Tables.{needed, optional, keyed, paired, BeginsWith}

-- what the database is, and in which form
abbrev pub meta_table : Table
meta_table =
    keyed (codes "intake_meta") 0 (optional (codes "id") Integer ∷ needed (codes "kind") Text
    ∷ needed (codes "form") Integer ∷ []) [] []

-- the first request of each filer and key, with its number if it was registered
abbrev pub kept_table : Table
kept_table = keyed (codes "kept") 1
    (optional (codes "seq") Integer ∷ needed (codes "filer") Text ∷ needed (codes "idem") Text
    ∷ needed (codes "body") Blob ∷ optional (codes "number") Integer ∷ [])
    ((2 ∷ 3 ∷ []) ∷ []) (plain ∷ [])

-- the findings of those that were refused
abbrev pub finding_table : Table
finding_table =
    paired (codes "finding") 3 (needed (codes "seq") Integer ∷ needed (codes "pos") Integer
    ∷ needed (codes "code") Integer ∷ needed (codes "place") Blob ∷ [])

-- the registered ones
abbrev pub filing_table : Table
filing_table =
    keyed (codes "filing") 5 (optional (codes "number") Integer ∷ needed (codes "seq") Integer ∷ []) ((2 ∷ []) ∷ [])
    (plain ∷ [])

-- their facts
abbrev pub fact_table : Table
fact_table = paired (codes "fact") 7
    (needed (codes "number") Integer ∷ needed (codes "pos") Integer ∷ needed (codes "id") Blob
    ∷ needed (codes "concept") Blob ∷ needed (codes "dimensions") Blob ∷ optional (codes "value") Blob
    ∷ optional (codes "decimals") Integer ∷ [])

-- how many of the kept requests, from the first on, are answered as before there were problem details, in one row
abbrev pub migrated_table : Table
migrated_table = keyed (codes "migrated") 9 (optional (codes "id") Integer ∷ needed (codes "last") Integer ∷ []) [] []

-- the filings that kept requests are to replace, of those that are to replace one
abbrev pub amends_table : Table
amends_table = keyed (codes "amends") 10 (optional (codes "seq") Integer ∷ needed (codes "target") Integer ∷ []) [] []

-- the moments at which kept requests came, of those that came since there are moments
abbrev pub received_table : Table
received_table =
    keyed (codes "received") 11 (optional (codes "seq") Integer ∷ needed (codes "moment") Integer ∷ []) [] []

-- the tables of a register in every form; the trees between them are those of the indexes that SQLite makes for their
-- keys
abbrev pub common_tables : List Table
common_tables = meta_table ∷ kept_table ∷ finding_table ∷ filing_table ∷ fact_table ∷ []

-- the tables of a register
abbrev pub register_tables : List Table
register_tables = common_tables ++ migrated_table ∷ amends_table ∷ received_table ∷ []

-- the tables of a register come first, and others may follow
abbrev pub IsDeclared : Schema → Type 0
IsDeclared = BeginsWith register_tables

-- the tables of every form come first, and others may follow
abbrev pub HasCommon : Schema → Type 0
HasCommon = BeginsWith common_tables

-- whether the name of one of our tables is in use, by a table, an index or a view
abbrev pub is_taken : Schema → Bool
is_taken schema = list_any (λ t. is_used schema t.name) register_tables
