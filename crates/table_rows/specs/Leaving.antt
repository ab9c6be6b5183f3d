-- What a call leaves of its connection, if it only reads, or if it writes inside a transaction.
use Rattle.std.specs.Prelude.{◌≡◌, ◌⊎◌, ℕ, false, List, Result, Ok, Err, IsTrue, IfErr, OnOk}
use Rattle.std.specs.Borrow.{MutBor}
use Rattle.sqlite.specs.Store.{Ghosts}
use Rattle.sqlite.specs.Held.{Held, state}
use Rattle.sqlite.specs.Order.{Row}
use Rattle.sqlite.specs.State.{State, HasCleanDisk, IsUnchanged, IsRolledBack, KeepsCounts, ExecutesInside}
use Rattle.sqlite.specs.declared.error.Error.{Error}
use Rattle.table_rows.specs.Picking.{IsStopped}
use Rattle.table_rows.specs.Standing.{CommitsNothing, StaysCommitted}

-- nothing was written; this holds also of a connection that was shut and stays so
pub record IsUntouched (old new : State) : Type 0 where
  pub was_open : IsTrue new.is_open → IsTrue old.is_open
  pub same : IsTrue old.is_open → IsUnchanged old new
  pub counts : KeepsCounts old new

-- How a call ended.
pub data Ending : Type 0 where
  -- the database answered a query
  Asked : Ending
  -- it answered one, or it was not asked
  Passed : Ending
  -- whatever came of it: nothing was written, or what the transaction had written is undone
  Ended : Ending
  -- the database refused a query for this reason
  Stopped : Error → Ending

abbrev pub IsLeft : Ending → State → State → Type 0
IsLeft Asked old new = IsUnchanged old new
IsLeft Passed old new = IsUntouched old new
IsLeft Ended old new = IsUntouched old new ⊎ IsRolledBack old new
IsLeft (Stopped error) old new = IsStopped old new error

-- Where the disk is clean at the end, the call left the connection so. It begins no transaction and commits nothing: a
-- crash inside it leaves what one before it could leave.
pub record Leaves (ending : Ending) (old new : State) : Type 0 where
  pub left : HasCleanDisk new → IsLeft ending old new
  pub mode : old.in_transaction ≡ false → new.in_transaction ≡ false
  pub survives : CommitsNothing old new

abbrev pub ending_of : {X E : Type 0} → Ending → (E → Ending) → Result X E → Ending
ending_of answered refused (Ok x) = answered
ending_of answered refused (Err e) = refused e

-- The call only reads, and an answer says that the store is open.
abbrev pub OnlyReads : {S X E : Type 0} → Ghosts S → Held S → Held S → Result X E → Type 0
OnlyReads g old new result = Leaves (ending_of Asked (λ _. Ended) result) (state g old) (state g new)

-- The call only reads, and may answer without a query.
abbrev pub MayRead : {S X E : Type 0} → Ghosts S → Held S → Held S → Result X E → Type 0
MayRead g old new result = Leaves (ending_of Passed (λ _. Ended) result) (state g old) (state g new)

-- The call only reads, an answer says that the store is open, and a refusal is the database's own.
abbrev pub OnlyQueries : {S X : Type 0} → Ghosts S → Held S → Held S → Result X Error → Type 0
OnlyQueries g old new result = Leaves (ending_of Asked Stopped result) (state g old) (state g new)

-- The call only reads, may answer without a query, and a refusal is the database's own.
abbrev pub MayQuery : {S X : Type 0} → Ghosts S → Held S → Held S → Result X Error → Type 0
MayQuery g old new result = Leaves (ending_of Passed Stopped result) (state g old) (state g new)

-- A call inside a transaction writes by the connection that it was given, and commits nothing.
pub record OnlyWrites {S : Type 0} (g : Ghosts S) (old new : MutBor (Held S)) : Type 0 where
  pub same_reference : new.ghost_name ≡ old.ghost_name
  pub keeps : StaysCommitted g old.now new.now
  pub survives : CommitsNothing (state g old.now) (state g new.now)

-- What a statement inside a transaction does. It is refused if none is under way.
pub record RunsInside {S : Type 0} (g : Ghosts S) (sql : List ℕ) (params : Row) (old new : MutBor (Held S))
    (result : Result (Unit {0}) Error) : Type 0 where
  pub inside : OnOk result (IsTrue (state g old.now).in_transaction)
  pub ran : HasCleanDisk (state g new.now)
      → OnOk result ((count : ℕ) × ExecutesInside 0 sql params (state g old.now) (state g new.now) (Ok count))
  pub failed : HasCleanDisk (state g new.now) → IsTrue (state g old.now).in_transaction
      → IfErr result (λ error. ExecutesInside 0 sql params (state g old.now) (state g new.now) (Err error))
  pub leaves : OnlyWrites g old new
