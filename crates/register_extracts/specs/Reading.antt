-- What is read of the moment of one request.
use Rattle.std.specs.Prelude.{ℕ, pos, List, [], ◌∷◌, Option, Some, None}
use Rattle.sqlite.specs.declared.types.Value.TheVariants.{Int}
use Rattle.sqlite.specs.Order.{Row, column}

-- the column `moment` of a row of `received`
abbrev pub moment_alone : Row → Row
moment_alone row = column row 1 ∷ []

-- what is read of the moment of a request, if it is known
abbrev pub moment_rows : Option ℕ → List Row
moment_rows None = []
moment_rows (Some moment) = (Int (pos moment) ∷ []) ∷ []
