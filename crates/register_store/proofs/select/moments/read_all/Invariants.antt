use Rattle.std.proofs.Common.{◌≡◌, ◌+◌, ◌-◌, ◌++◌, ℕ, List, length, map, replicate, take, None, Option, Some}
use Rattle.std.specs.List.{AllByRecursion}
use Rattle.register_rows.specs.Received.{IsMoment, received_rows}
use Rattle.register_store.specs.Moments.{milliseconds_of}
use Rattle.register_store.proofs.select.moments.read_all.Given as goal

-- so far there is none
abbrev pub invariant-loop-place : goal.invariant-loop-place
invariant-loop-place l =
    map milliseconds_of l.list.items ≡ replicate {A = Option ℕ} (l._place - length l.rows) None

-- the first rows are read
abbrev pub invariant-loop-row : goal.invariant-loop-row
invariant-loop-row l = (undated : ℕ) (dated : List ℕ) → l.kept ≡ undated + length dated → AllByRecursion IsMoment dated
    → l.rows ≡ received_rows undated dated
    → map milliseconds_of l.list.items ≡ replicate {A = Option ℕ} undated None ++ map Some (take l.row-index dated)
