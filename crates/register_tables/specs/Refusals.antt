-- What a refusal says of the connection that it gives back.
use Rattle.std.specs.Prelude.{◌≡◌, ◌≢◌, ◌⊎◌, ℕ, false, List, None}
use Rattle.sqlite.specs.Store.{Ghosts}
use Rattle.sqlite.specs.Held.{Held, state}
use Rattle.sqlite.specs.State.{HasCleanDisk, Survives}
use Rattle.sqlite.specs.declared.error.Error.{Error}
use Rattle.filing_model.specs.Request.{Request}
use Rattle.table_rows.specs.Standing.{AddsNothing, CommitsNothing}
use Rattle.table_rows.specs.Statements.{AreTreesOf, AreUndone}
use Rattle.register_tables.specs.declared.fault.CreateFault.{CreateFault}
use Rattle.register_tables.specs.declared.fault.CreateFault.TheVariants as create
use Rattle.register_tables.specs.declared.fault.OpenFault.{OpenFault}
use Rattle.register_tables.specs.Earlier.{IsEarlierOf, is_blocked}
use Rattle.register_tables.specs.declared.opening.form.Earlier.{Earlier}
use Rattle.register_tables.specs.Faults.{create_fault, IsFailure}
use Rattle.register_tables.specs.Making.{making}
use Rattle.register_tables.specs.Migrating.{IsNotMigrated, MigratesTo}
use Rattle.register_tables.specs.Opening.{IsRefused}
use Rattle.register_tables.specs.Registers.{ForRows}

-- No register was made, and the connection comes back as one that may be used again: what is written is what was
-- committed. A fault other than Taken has its cause in a statement or in the commit.
pub record GivesBackMaking {S : Type 0} (g : Ghosts S) (conn : Held S) (fault : CreateFault) (back : Held S)
    : Type 0 where
  pub autocommit : back.in_transaction ≡ false
  pub unlimited : back.step_limit ≡ None
  pub same : HasCleanDisk (state g back) → AddsNothing (state g conn) (state g back)
  pub why : HasCleanDisk (state g back) → fault ≢ create.Taken
      → (error : Error) × (fault ≡ create_fault error) × AreUndone g error making conn back
  -- A crash leaves what it could leave before, or what all the statements make of the database.
  pub crash : Survives (state g conn) (state g back) (AreTreesOf g making conn)

-- No register was opened, and the connection comes back as one that may be used again: what is written is what was
-- committed, and the fault says why.
pub record GivesBackOpening {S : Type 0} (g : Ghosts S) (conn : Held S) (fault : OpenFault) (back : Held S)
    : Type 0 where
  pub autocommit : back.in_transaction ≡ false
  pub unlimited : back.step_limit ≡ None
  pub same : HasCleanDisk (state g back) → AddsNothing (state g conn) (state g back)
  pub why : HasCleanDisk (state g back) → IsRefused g fault conn back
  -- If the rows stand for requests, the cause is memory or the disk.
  pub sound : HasCleanDisk (state g back) → ForRows g conn (λ _ _. IsFailure fault)
  -- A crash leaves what it could leave before.
  pub crash : CommitsNothing (state g conn) (state g back)

-- No register was migrated, and the connection comes back as one that may be used again: what is written is what was
-- committed, and the fault says why.
pub record GivesBackMigrating {S : Type 0} (g : Ghosts S) (conn : Held S) (fault : OpenFault) (back : Held S)
    : Type 0 where
  pub autocommit : back.in_transaction ≡ false
  pub unlimited : back.step_limit ≡ None
  pub same : HasCleanDisk (state g back) → AddsNothing (state g conn) (state g back)
  pub why : HasCleanDisk (state g back) → IsNotMigrated g fault conn back
  -- If the rows stand for requests in an earlier form, and no name is in the way, the cause is memory, the disk or
  -- another failure of a statement that writes.
  pub sound : HasCleanDisk (state g back)
      → (form : Earlier) (old_style : ℕ) (F : List Request) → IsEarlierOf form old_style F (state g conn).now
      → is_blocked (state g conn).now.schema form ≡ false → IsFailure fault
  -- A crash leaves what it could leave before, or what all the statements make of the database. Nothing was committed
  -- if the fault is one of the database.
  pub crash : Survives (state g conn) (state g back) (MigratesTo g conn)
  pub unwritten : IsFailure fault ⊎ CommitsNothing (state g conn) (state g back)
