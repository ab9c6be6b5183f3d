-- Rows that are those of kept requests with their moments.
use Rattle.std.specs.Prelude.{◌≡◌, ◌≢◌, ℕ, ◌+◌, List, ◌∷◌, ◌++◌, length}
use Rattle.std.specs.List.{AllByRecursion}
use Rattle.sqlite.specs.Order.{Row}
use Rattle.table_rows.specs.Rows.{counted_from}
use Rattle.register_rows.specs.Received.{IsMoment, received_row}

-- so many of the rows, and no more, are those of the kept requests from this place on, one after another
pub record AreDatedFrom (first : ℕ) (rows : List Row) (many : ℕ) : Type 0 where
  pub before : List ℕ
  pub rest : List Row
  pub within : AllByRecursion IsMoment before
  pub rows_are : rows ≡ counted_from received_row first before ++ rest
  pub many_is : many ≡ length before
  pub ends : (moment : ℕ) (more : List Row) → IsMoment moment → rest ≢ received_row (first + many) moment ∷ more
