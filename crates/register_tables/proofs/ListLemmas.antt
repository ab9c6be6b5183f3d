-- What the rows that are read say of the requests that they stand for.
use Rattle.std.proofs.Common.{◌≡◌, ◌<◌, ℕ, ◌+◌, pos, Less, Option, None, Some, List, [], ◌∷◌, ◌++◌, map, filter, refl}
use Rattle.std.proofs.Common.{ap, arith}
use Rattle.sqlite.specs.declared.types.Value.TheVariants.{Int}
use Rattle.std.specs.List.{AllByRecursion}
use Rattle.sqlite_sql.specs.Query.{key_cmp}
use Rattle.sqlite.specs.Order.{Row}
use Rattle.filing_model.specs.Register.{Kept}
use Rattle.table_rows.specs.Reading.{ascending, RisesBy}
use Rattle.table_rows.proofs.OrderLemmas.{int_less}
use Rattle.register_tables.specs.Reads.{every, whole, by_first}
use Rattle.register_rows.specs.Register.{amends_rows, amends_rows_by, joined_from}

pub filter_every : (rows : List Row) → filter every rows ≡ rows
filter_every [] = refl
filter_every (r ∷ rows) = ap (λ l. r ∷ l) (filter_every rows)

pub map_whole : (rows : List Row) → map whole rows ≡ rows
map_whole [] = refl
map_whole (r ∷ rows) = ap (λ l. r ∷ l) (map_whole rows)

-- the rows of `amends` rise

abbrev Above : ℕ → Row → Type 0
Above m row = key_cmp 0 (ascending ∷ []) (Int (pos m) ∷ []) (by_first row) ≡ Less

amends_after : (m at : ℕ) (ks : List Kept) → m < at → AllByRecursion (Above m) (joined_from amends_rows at ks)
amends_after m at [] low = tt
amends_after m at (k ∷ ks) low = go k.request.target (amends_after m (at + 1) ks (omega arith))
  where
    go : (t : Option ℕ) → AllByRecursion (Above m) (joined_from amends_rows (at + 1) ks)
        → AllByRecursion (Above m) (amends_rows_by at t ++ joined_from amends_rows (at + 1) ks)
    go None h = h
    go (Some n) h = (int_less m at low, h)

pub amends_rise : (at : ℕ) (ks : List Kept) → RisesBy by_first (joined_from amends_rows at ks)
amends_rise at [] = tt
amends_rise at (k ∷ ks) = go k.request.target (amends_rise (at + 1) ks)
  where
    go : (t : Option ℕ) → RisesBy by_first (joined_from amends_rows (at + 1) ks)
        → RisesBy by_first (amends_rows_by at t ++ joined_from amends_rows (at + 1) ks)
    go None h = h
    go (Some n) h = (amends_after at (at + 1) ks (omega arith), h)
