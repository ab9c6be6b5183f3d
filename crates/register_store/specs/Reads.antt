-- What the SELECTs of an open register read.
use Rattle.std.specs.Prelude.{Bool, true, ℕ, ◌&&◌, List, [], ◌∷◌}
use Rattle.sqlite.specs.declared.types.Value.TheVariants.{Text}
use Rattle.sqlite.specs.Collation.TheVariants.{Binary}
use Rattle.sqlite.specs.Order.{Row, column}
use Rattle.sqlite.specs.Ops.{binary, is_true}
use Rattle.sqlite_sql.specs.declared.ops.BinaryOp.TheVariants.{Compare}
use Rattle.sqlite_sql.specs.declared.ops.CompareOp.TheVariants.{Eq}

-- the second column, `filer` of a kept row, equals this text, as SQL compares
abbrev pub has_filer : List ℕ → Row → Bool
has_filer filer row = is_true (binary (Compare Eq Binary) (column row 1) (Text filer)) && true

-- the filer of a kept row
abbrev pub filer_alone : Row → Row
filer_alone row = column row 1 ∷ []

-- the columns of a fact's row that say the fact
abbrev pub said : Row → Row
said row = column row 2 ∷ column row 3 ∷ column row 4 ∷ column row 5 ∷ column row 6 ∷ []
