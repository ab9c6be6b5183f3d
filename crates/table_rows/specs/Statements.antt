-- Statements that write, one after another, in one transaction.
use Rattle.std.specs.Prelude.{◌≡◌, ◌⊎◌, ◌≤◌, ℕ, true, false, List, [], ◌∷◌, Result, Ok, Err, IsTrue, IfErr, OnOk}
use Rattle.std.specs.Prelude.{OnErr}
use Rattle.sqlite.specs.Store.{Ghosts}
use Rattle.sqlite.specs.Held.{Held, state}
use Rattle.sqlite.specs.Order.{Row}
use Rattle.sqlite.specs.Tree.{Trees}
use Rattle.sqlite.specs.Steps.{FailsToCommit}
use Rattle.sqlite.specs.State.{HasCleanDisk, Survives, ExecutesInside, IsRolledBack}
use Rattle.sqlite.specs.Values.{bound}
use Rattle.sqlite.specs.declared.error.Error.{Error}
use Rattle.table_rows.specs.Standing.{IsLasting, AddsNothing}
use Rattle.table_rows.specs.declared.statements.Statement.{Statement as Given}

-- a statement, and the values of its parameters
abbrev pub Statement : Type 0
Statement = List ℕ × Row

abbrev pub statement_of : Given → Statement
statement_of given = (given.text.now, bound given.params.now)

-- a statement that has no parameters
abbrev pub plain : List ℕ → Statement
plain text = (text, [])

-- inside a transaction, which goes on, the statements are run, one after another
abbrev pub AreDone : {S : Type 0} → Ghosts S → List Statement → Held S → Held S → Type 0
AreDone g [] old new = old ≡ new
AreDone {S} g (s ∷ more) old new =
    (mid : Held S) × ((count : ℕ) × ExecutesInside 0 s.0 s.1 (state g old) (state g mid) (Ok count))
    × AreDone g more mid new

-- one of the statements fails with this error, after those before it were run
abbrev pub StopsAt : {S : Type 0} → Ghosts S → Error → List Statement → Held S → Held S → Type 0
StopsAt g error [] old new = ⊥
StopsAt {S} g error (s ∷ more) old new =
    ExecutesInside 0 s.0 s.1 (state g old) (state g new) (Err error)
    ⊎ ((mid : Held S) × ((count : ℕ) × ExecutesInside 0 s.0 s.1 (state g old) (state g mid) (Ok count))
    × StopsAt g error more mid new)

-- a transaction begins
abbrev pub begun : {S : Type 0} → Held S → Held S
begun h = record h { in_transaction = true }

-- these statements and no others were run in one transaction, and what they made is committed
pub record AreCommitted {S : Type 0} (g : Ghosts S) (statements : List Statement) (old new : Held S) : Type 0 where
  pub last : Held S
  pub done : AreDone g statements (begun old) last
  pub is_open : IsTrue (state g new).is_open
  pub now_is : (state g new).now ≡ (state g last).now
  pub committed_is : (state g new).committed ≡ (state g last).now

-- a statement failed with this error and what the others did was undone, or all were run and could not be committed
pub record AreUndone {S : Type 0} (g : Ghosts S) (error : Error) (statements : List Statement) (old new : Held S)
    : Type 0 where
  pub last : Held S
  pub counts : (state g last).faults ≤ (state g new).faults
  pub why : (StopsAt g error statements (begun old) last × IsRolledBack (state g last) (state g new))
      ⊎ (AreDone g statements (begun old) last × FailsToCommit (state g last) (state g new) error)

-- the trees are what all the statements make of the database
pub record AreTreesOf {S : Type 0} (g : Ghosts S) (statements : List Statement) (old : Held S) (trees
    : Trees) : Type 0 where
  pub last : Held S
  pub done : AreDone g statements (begun old) last
  pub is : trees ≡ (state g last).now.trees

-- What running these statements in one transaction does.
pub record WritesAll {S : Type 0} (g : Ghosts S) (statements : List Statement) (old new : Held S)
    (result : Result (Unit {0}) Error) : Type 0 where
  pub autocommit : new.in_transaction ≡ false
  -- All were run and no others, and what they made is committed. A crash after the call leaves it.
  pub written : HasCleanDisk (state g new) → OnOk result (AreCommitted g statements old new)
  pub durable : HasCleanDisk (state g new) → OnOk result (IsLasting (state g new))
  -- A refusal says why, and wrote nothing.
  pub undone : HasCleanDisk (state g new) → IfErr result (λ error. AreUndone g error statements old new)
  pub neither : HasCleanDisk (state g new) → OnErr result (AddsNothing (state g old) (state g new))
  -- A crash in the call leaves what it could leave before, or what all the statements make of the database.
  pub crash : Survives (state g old) (state g new) (AreTreesOf g statements old)
