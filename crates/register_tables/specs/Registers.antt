-- Databases that are registers, now and after a crash.
use Rattle.std.specs.Prelude.{◌≡◌, ℕ, List, length, Option}
use Rattle.sqlite.specs.Store.{Ghosts}
use Rattle.sqlite.specs.Held.{Held, state}
use Rattle.sqlite.specs.Effect.{Database, IsDatabase}
use Rattle.sqlite.specs.State.{State}
use Rattle.sqlite.specs.Tree.{Trees}
use Rattle.filing_model.specs.Request.{Request}
use Rattle.register_rows.specs.Received.{Received}
use Rattle.register_rows.specs.Register.{StandsFor}

-- a database, as SQLite's files have one, whose rows stand for these requests, the first `old_style` of them kept
-- before there were problem details
pub record IsRegisterOf (old_style : ℕ) (F : List Request) (db : Database) : Type 0 where
  pub sound : IsDatabase db
  pub rows : StandsFor db old_style F

-- an open after a crash that left these trees finds the rows of these requests
pub record LeavesRegister (old_style : ℕ) (F : List Request) (trees : Trees) : Type 0 where
  pub db : Database
  pub is : trees ≡ db.trees
  pub register : IsRegisterOf old_style F db

-- Whatever requests the rows stand for, this holds of them.
abbrev pub ForRows : {S : Type 0} → Ghosts S → Held S → (ℕ → List Request → Type 0) → Type 0
ForRows g conn Holds = (old_style : ℕ) (F : List Request) → IsRegisterOf old_style F (state g conn).now
    → Holds old_style F

-- a crash now leaves the rows of these requests, and no others
abbrev pub LeavesOnly : State → ℕ → List Request → Type 0
LeavesOnly s old_style F = (trees : Trees) → s.may_leave trees → LeavesRegister old_style F trees

-- an open after a crash that left these trees finds the rows of these requests, with these moments
pub record LeavesReceived (old_style : ℕ) (F : List Request) (moments : List (Option ℕ)) (trees : Trees) : Type 0 where
  pub db : Database
  pub is : trees ≡ db.trees
  pub register : IsRegisterOf old_style F db
  pub one_each : length moments ≡ length F
  pub received : Received db moments

-- a crash now leaves the rows of these requests with these moments, and no others
abbrev pub LeavesOnlyReceived : State → ℕ → List Request → List (Option ℕ) → Type 0
LeavesOnlyReceived s old_style F moments =
    (trees : Trees) → s.may_leave trees → LeavesReceived old_style F moments trees
