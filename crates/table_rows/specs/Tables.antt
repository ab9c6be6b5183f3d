-- Tables as they are declared.
use Rattle.std.specs.Prelude.{◌≡◌, ℕ, true, false, List, [], ◌∷◌, ◌++◌, Option, Some, None}
use Rattle.sqlite.specs.Collation.TheVariants.{Binary}
use Rattle.sqlite.specs.declared.types.Value.TheVariants.{Null}
use Rattle.sqlite_value.specs.declared.keys.Order.{Order}
use Rattle.sqlite_value.specs.Keys.{plain}
use Rattle.sqlite_schema.specs.declared.schema.Column.{Column}
use Rattle.sqlite_schema.specs.declared.schema.Index.{Index}
use Rattle.sqlite_schema.specs.declared.schema.View.{View}
use Rattle.sqlite.specs.Table.{Table}
use Rattle.sqlite.specs.Schema.{Schema}
use Rattle.sqlite.specs.Kind.{Kind}

abbrev pub no_schema : Schema
no_schema = record { tables = []; indexes = []; views = [] }

-- a NOT NULL column of a STRICT table
abbrev pub needed : List ℕ → Kind → Column
needed name kind =
    record { name = name; kind = kind; is_strict = true; not_null = true; default = Null; collation = Binary }

-- a column of a STRICT table that may be NULL
abbrev pub optional : List ℕ → Kind → Column
optional name kind =
    record { name = name; kind = kind; is_strict = true; not_null = false; default = Null; collation = Binary }

-- a STRICT table with no check, reference or default
abbrev pub table : List ℕ → ℕ → List Column → Option ℕ → List ℕ → List (List ℕ) → List Order → Table
table name tree columns key primary uniques orders = record {
  name = name;
  tree = tree;
  columns = columns;
  key = key;
  primary = primary;
  uniques = uniques;
  orders = orders;
  checks = [];
  references = [];
  computed = [];
  stamps = record { places = []; terms = []; formats = [] };
  is_counted = false;
}

-- the first column is the INTEGER PRIMARY KEY
abbrev pub keyed : List ℕ → ℕ → List Column → List (List ℕ) → List Order → Table
keyed name tree columns = table name tree columns (Some 0) (0 ∷ [])

-- the first two columns are the PRIMARY KEY
abbrev pub paired : List ℕ → ℕ → List Column → Table
paired name tree columns = table name tree columns None (1 ∷ 2 ∷ []) ((1 ∷ 2 ∷ []) ∷ []) (plain ∷ [])

-- our tables come first, and others may follow; which indexes there are makes no difference to a statement on a table
abbrev pub schema_with : List Table → List Table → List Index → List View → Schema
schema_with ours tables indexes views = record { tables = ours ++ tables; indexes = indexes; views = views }

pub record BeginsWith (ours : List Table) (schema : Schema) : Type 0 where
  pub tables : List Table
  pub indexes : List Index
  pub views : List View
  pub is : schema ≡ schema_with ours tables indexes views
