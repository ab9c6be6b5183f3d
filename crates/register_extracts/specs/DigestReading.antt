-- What is read of a kept request.
use Rattle.std.specs.Prelude.{[], ◌∷◌}
use Rattle.sqlite.specs.Order.{Row, column}

-- the columns `filer`, `idem`, `body` and `number` of a kept row
abbrev pub kept_columns : Row → Row
kept_columns row = column row 1 ∷ column row 2 ∷ column row 3 ∷ column row 4 ∷ []
