-- What a connection keeps between calls.
use Rattle.std.specs.Prelude.{◌≡◌, ◌⊎◌, false, None, Result, IsTrue, OnOk, OnErr}
use Rattle.sqlite.specs.Store.{Ghosts}
use Rattle.sqlite.specs.Tree.{Trees}
use Rattle.sqlite.specs.Effect.{Database}
use Rattle.sqlite.specs.Held.{Held, state}
use Rattle.sqlite.specs.State.{State, HasCleanDisk, IsUnchanged, IsRolledBack, KeepsCommit, Survives}

-- a connection in no transaction, whose statements may take any number of steps
pub record IsAtRest {S : Type 0} (conn : Held S) : Type 0 where
  pub autocommit : conn.in_transaction ≡ false
  pub unlimited : conn.step_limit ≡ None

-- no transaction is under way, and while the store is open the database is such a one, committed as it is
pub record HasCommitted (Is : Database → Type 0) (s : State) : Type 0 where
  pub autocommit : s.in_transaction ≡ false
  pub now : IsTrue s.is_open → Is s.now
  pub committed : IsTrue s.is_open → s.committed ≡ s.now

-- a call that wrote nothing left the connection as it was, or undid what the transaction had written
abbrev pub Keeps : State → State → Type 0
Keeps old new = IsUnchanged old new ⊎ IsRolledBack old new

-- what a call may commit, by what its database was
abbrev pub Commits : {X : Type 0} → (X → Database → Type 0) → State → (X → Trees → Type 0) → Trees → Type 0
Commits {X} Is s After trees = (x : X) → HasCommitted (Is x) s → IsTrue s.is_open → After x trees

-- nothing was written: while the store is open, it is as the last commit left it
pub record AddsNothing (old new : State) : Type 0 where
  pub was_open : IsTrue new.is_open → IsTrue old.is_open
  pub now : IsTrue new.is_open → new.now ≡ old.committed
  pub committed : IsTrue new.is_open → new.committed ≡ old.committed

-- nothing was committed: a crash inside the call leaves what one before it could leave
abbrev pub CommitsNothing : State → State → Type 0
CommitsNothing old new = Survives old new (λ _. ⊥)

-- if no transaction was under way before the call, none is after it
abbrev pub StaysAutocommit : {S : Type 0} → Held S → Held S → Type 0
StaysAutocommit old new = old.in_transaction ≡ false → new.in_transaction ≡ false

-- If the disk is clean at the end, what was committed is still committed.
abbrev pub StaysCommitted : {S : Type 0} → Ghosts S → Held S → Held S → Type 0
StaysCommitted g old new = HasCleanDisk (state g new) → KeepsCommit (state g old) (state g new)

-- If the disk is clean at the end, an answer leaves the database as it was.
abbrev pub StaysOnOk : {X E : Type 0} → State → State → Result X E → Type 0
StaysOnOk old new result = HasCleanDisk new → OnOk result (IsUnchanged old new)

-- If the disk is clean at the end, a refusal leaves what was committed.
abbrev pub KeepsOnErr : {X E : Type 0} → State → State → Result X E → Type 0
KeepsOnErr old new result = HasCleanDisk new → OnErr result (KeepsCommit old new)

-- the store is open, and the database is committed as it is
abbrev pub IsCommitted : State → Type 0
IsCommitted s = IsTrue s.is_open × (s.committed ≡ s.now)

-- a crash leaves the database as it is
abbrev pub IsLasting : State → Type 0
IsLasting s = (trees : Trees) → s.may_leave trees → trees ≡ s.now.trees
