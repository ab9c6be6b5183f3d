use Rattle.std.proofs.Common.{◌≡◌, ◌+◌, List, map, take, drop}
use Rattle.filing_model.specs.Register.{Kept}
use Rattle.table_rows.specs.Rows.{counted_from}
use Rattle.register_rows.specs.Register.{kept_row, amends_rows, joined_from}
use Rattle.register_store.proofs.decode.completed.read_requests.Given as goal

abbrev pub invariant-loop-at : goal.invariant-loop-at
invariant-loop-at l = (ks : List Kept) → l.rows ≡ counted_from kept_row 1 ks → l.amends ≡ joined_from amends_rows 1 ks
    → (l.list.items ≡ map (λ (k : Kept). k.request) (take l.at ks))
    × (l.rest ≡ joined_from amends_rows (l.at + 1) (drop l.at ks))
