-- What a SELECT over one table shows.
use Rattle.std.specs.Prelude.{◌≡◌, Bool, false, List, map, filter, IsPermutation}
use Rattle.std.specs.declared.cmp.Ordering.TheVariants.{Less}
use Rattle.sqlite.specs.Collation.TheVariants.{Binary}
use Rattle.sqlite_value.specs.declared.keys.Key.{Key}
use Rattle.sqlite_sql.specs.Query.{key_cmp}
use Rattle.sqlite.specs.Order.{Row}
use Rattle.sqlite.specs.Table.{Table}
use Rattle.sqlite.specs.State.{State, IsUnchanged}
use Rattle.sqlite_trees.specs.Tree.{IsAscending}
use Rattle.table_rows.specs.Rows.{TableHas}

-- what ORDER BY a column says
abbrev pub ascending : Key
ascending = record { collation = Binary; descending = false }

-- the rows rise by what `sort` takes from them, so that no two are tied
abbrev pub RisesBy : (Row → Row) → List Row → Type 0
RisesBy sort = IsAscending (λ a b. key_cmp 0 (map (λ _. ascending) (sort a)) (sort a) (sort b) ≡ Less)

-- of the table's rows those that pass `keep` were read, as `show` has them: in the order of `sort` if that has no ties,
-- and otherwise in some order; nothing was written
pub record ReadsRows (table : Table) (keep : Row → Bool) (sort show : Row
    → Row) (rows : List Row) (old new : State) : Type 0 where
  pub same : IsUnchanged old new
  pub any : (wanted : List Row) → TableHas old.now table wanted → IsPermutation (map show (filter keep wanted)) rows
  pub ordered : (wanted : List Row) → TableHas old.now table wanted → RisesBy sort (filter keep wanted)
      → rows ≡ map show (filter keep wanted)
