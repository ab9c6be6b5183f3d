use Rattle.std.proofs.Common.{◌≡◌, ℕ, List, map, take}
use Rattle.filing_model.specs.Register.{Kept}
use Rattle.register_pages.specs.Own.{AreOwn, own_row}
use Rattle.register_pages.proofs.own.read_rows.Given as goal

abbrev pub invariant-loop-row : goal.invariant-loop-row
invariant-loop-row l = (sent : List (ℕ × Kept)) → l.rows ≡ map own_row sent → AreOwn l.own (take l.row-index sent)
