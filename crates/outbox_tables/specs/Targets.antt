-- What the rows of `target` say of the entries.
use Rattle.std.specs.Prelude.{if◌then◌else◌, List, [], ◌∷◌}
use Rattle.sqlite.specs.Order.{Row, column}
use Rattle.outbox_tables.specs.declared.opening.targets.Said.{Said}
use Rattle.outbox_tables.specs.declared.opening.targets.Said.TheVariants.{Nothing, Number, Unsound}
use Rattle.outbox_tables.specs.Audit.{is_number}

-- what the rows of its id say of an entry
abbrev pub said_by : List Row → Said
said_by [] = Nothing
said_by (row ∷ []) = if is_number (column row 1) then Number else Unsound
said_by (row ∷ other ∷ rows) = Unsound
