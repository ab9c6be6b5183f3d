-- Registers with the moments at which their requests were received: each request has a place in the list of them,
-- `None` if its moment is not known.
use Rattle.std.specs.Prelude.{◌≡◌, ℕ, List, length, Option}
use Rattle.sqlite.specs.Store.{Ghosts}
use Rattle.sqlite.specs.Held.{Held, state}
use Rattle.filing_model.specs.Request.{Request}
use Rattle.table_rows.specs.Standing.{HasCommitted}
use Rattle.register_rows.specs.Received.{Received}
use Rattle.register_tables.specs.Registers.{ForRows}
use Rattle.register_store.specs.Store.{ForRegister}

-- If the disk is clean at the end, this holds of the requests for which the rows stood before, and of their moments, if
-- they were committed.
abbrev pub ForDated : {S : Type 0} → Ghosts S → Held S → Held S → (List Request → List (Option ℕ) → Type 0) → Type 0
ForDated g old new Holds =
    ForRegister g old new (λ _ F. (moments : List (Option ℕ)) → length moments ≡ length F
    → HasCommitted (λ db. Received db moments) (state g old) → Holds F moments)

-- Whatever requests the rows stand for, and whatever moments they have, this holds of them.
abbrev pub ForDatedRows : {S : Type 0} → Ghosts S → Held S → (List Request → List (Option ℕ) → Type 0) → Type 0
ForDatedRows g conn Holds =
    ForRows g conn (λ _ F. (moments : List (Option ℕ)) → length moments ≡ length F
    → Received (state g conn).now moments → Holds F moments)
