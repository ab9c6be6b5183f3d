use Rattle.std.proofs.Common.{◌≡◌, ◌≤◌, ℕ, List, Option, length, take}
use Rattle.sqlite.specs.Held.{state}
use Rattle.sqlite.specs.State.{HasCleanDisk}
use Rattle.table_rows.specs.Leaving.{Leaves}
use Rattle.table_rows.specs.Leaving.Ending.{Passed}
use Rattle.table_rows.specs.Standing.{HasCommitted}
use Rattle.filing_model.specs.Request.{Request}
use Rattle.filing_model.specs.Register.{kept}
use Rattle.register_rows.specs.Received.{Received}
use Rattle.register_tables.specs.Registers.{IsRegisterOf}
use Rattle.register_extracts.specs.Digest.{IsDigestOf, rows_of}
use Rattle.register_extracts.specs.Views.{bytes_of, count_of}
use Rattle.register_extracts.proofs.register.first_digest.Given as goal

abbrev pub invariant-loop-at : goal.invariant-loop-at
invariant-loop-at g l =
    let old = state g.S.Store l.fn.conn in
    let now = state g.S.Store l.conn in record {
      leaves : Leaves Passed old now;
      counted : count_of l.digest ≡ l.at;
      digested : HasCleanDisk now → (old_style : ℕ) (F : List Request) → HasCommitted (IsRegisterOf old_style F) old
          → (moments : List (Option ℕ)) → length moments ≡ length F → HasCommitted (λ db. Received db moments) old
          → l.count ≤ length (kept F) → l.count ≤ length moments
          → IsDigestOf (count_of l.digest) (bytes_of l.digest) (take l.at (rows_of F moments));
    }
