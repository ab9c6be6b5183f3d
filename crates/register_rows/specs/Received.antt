-- The moments at which the requests of a register came, in milliseconds since 1970-01-01T00:00:00Z (own rule).
use Rattle.std.specs.Prelude.{◌≡◌, ◌≤◌, ℕ, ◌+◌, pos, List, [], ◌∷◌, ◌++◌, map, replicate, Option, Some, None}
use Rattle.std.specs.List.{AllByRecursion}
use Rattle.sqlite.specs.declared.types.Value.TheVariants.{Int}
use Rattle.sqlite.specs.Order.{Row}
use Rattle.sqlite.specs.Effect.{Database}
use Rattle.table_rows.specs.Rows.{TableHas, counted_from}
use Rattle.register_rows.specs.Schema.{received_table}

-- the last millisecond of the year 9999
abbrev pub max_moment : ℕ
max_moment = 253402300799999

abbrev pub IsMoment : ℕ → Type 0
IsMoment moment = moment ≤ max_moment

-- the row of the kept request at this place, which came at this moment
abbrev pub received_row : ℕ → ℕ → Row
received_row seq moment = Int (pos seq) ∷ Int (pos moment) ∷ []

-- the rows of the kept requests behind the first `undated` ones, one for each
abbrev pub received_rows : ℕ → List ℕ → List Row
received_rows undated dated = counted_from received_row (undated + 1) dated

-- the moments of all kept requests: none of the first `undated` ones, and one of each that came later
abbrev pub all_moments : ℕ → List ℕ → List (Option ℕ)
all_moments undated dated = replicate undated None ++ map Some dated

-- The database has these moments of its kept requests, in their order: those of a beginning of them are not known, and
-- of each later one there is one.
pub record Received (db : Database) (moments : List (Option ℕ)) : Type 0 where
  pub undated : ℕ
  pub dated : List ℕ
  pub is : moments ≡ all_moments undated dated
  pub within : AllByRecursion IsMoment dated
  pub rows : TableHas db received_table (received_rows undated dated)
