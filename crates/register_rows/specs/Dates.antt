-- What an audit says of the rows of `received`.
use Rattle.std.specs.Prelude.{◌≡◌, ◌≢◌, ◌⊎◌, ◌≤◌, ◌<◌, ℕ, suc, ◌+◌, ◌-◌, List, [], ◌∷◌, ◌++◌, length, Option}
use Rattle.std.specs.List.{AllByRecursion}
use Rattle.sqlite.specs.Order.{Row}
use Rattle.table_rows.specs.Rows.{counted_from}
use Rattle.register_rows.specs.declared.dates.Dates.{Dates}
use Rattle.register_rows.specs.Dated.{AreDatedFrom}
use Rattle.register_rows.specs.Received.{IsMoment, received_row, received_rows, all_moments}

-- the rows, in the order of the key, are those of these moments of so many kept requests
pub record SaysMoments (kept_are : ℕ) (rows : List Row) (moments : List (Option ℕ)) : Type 0 where
  pub undated : ℕ
  pub dated : List ℕ
  pub is : moments ≡ all_moments undated dated
  pub one_each : undated + length dated ≡ kept_are
  pub within : AllByRecursion IsMoment dated
  pub rows_are : rows ≡ received_rows undated dated

-- they are those of no moments
abbrev pub SaysNoMoments : ℕ → List Row → Type 0
SaysNoMoments kept_are rows = (moments : List (Option ℕ)) → SaysMoments kept_are rows moments → ⊥

-- the first row, if it is that of a request with its moment, is that of one behind this place
abbrev pub BeginsBehind : ℕ → List Row → Type 0
BeginsBehind place rows = (seq moment : ℕ) (more : List Row) → IsMoment moment → rows ≡ received_row seq moment ∷ more
    → place < seq

-- The kept row at this place has no moment and should have one: the rows begin with those of the requests right before
-- it, each with a moment, and do not go on with its own. If they do not begin so, it is the first of the last so many.
pub record IsFirstUndated (kept_are : ℕ) (rows : List Row) (row : ℕ) : Type 0 where
  pub first : ℕ
  pub before : List ℕ
  pub rest : List Row
  pub within : AllByRecursion IsMoment before
  pub rows_are : rows ≡ counted_from received_row first before ++ rest
  pub place : row ≡ first + length before
  pub is_kept : row ≤ kept_are
  pub alone : before ≡ [] → (row ≡ suc (kept_are - length rows)) × BeginsBehind row rows
  pub none : (moment : ℕ) (more : List Row) → IsMoment moment → rest ≢ received_row row moment ∷ more

-- the row to report: 0 if there are more moments than kept requests, and otherwise the first without one
abbrev pub IsUndatedAt : ℕ → List Row → ℕ → Type 0
IsUndatedAt kept_are rows row =
    ((row ≡ 0) × (kept_are < length rows)) ⊎ ((length rows ≤ kept_are) × IsFirstUndated kept_are rows row)

-- What an audit keeps of rows: how many there are, the place of the kept request of the first, and how many of them,
-- from the first on, are those of kept requests that follow one another.
pub record AreDates (rows : List Row) (dates : Dates) : Type 0 where
  pub many : dates.rows ≡ length rows
  pub sound_are : AreDatedFrom dates.first rows dates.sound
  -- If there are none, the first row is that of no kept request.
  pub none : dates.sound ≡ 0
      → (seq moment : ℕ) (more : List Row) → IsMoment moment → rows ≢ received_row seq moment ∷ more
