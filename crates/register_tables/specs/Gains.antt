-- What a transaction adds to the tables of a register.
use Rattle.std.specs.Prelude.{List}
use Rattle.sqlite.specs.Order.{Row}
use Rattle.sqlite.specs.Table.{Table}
use Rattle.sqlite.specs.State.{State}
use Rattle.table_rows.specs.Rows.{GainsInside}
use Rattle.register_rows.specs.Schema.{register_tables}

-- a table of ours gains these rows inside a transaction, and the others stay
abbrev pub GainsRows : Table → List Row → State → State → Type 0
GainsRows = GainsInside register_tables
