-- Values that rows are compared with.
use Rattle.sqlite.specs.declared.types.Value.{Value}
use Rattle.sqlite.specs.declared.types.Value.TheVariants as value
use Rattle.register_rows.specs.declared.cells.Cell.{Cell}
use Rattle.register_rows.specs.declared.cells.Cell.TheVariants.{Null, Int, Text, Blob}

abbrev pub value_of : Cell → Value
value_of Null = value.Null
value_of (Int n) = value.Int n
value_of (Text t) = value.Text t.now
value_of (Blob b) = value.Blob b.now
