-- What a refusal says of the connection that it gives back.
use Rattle.std.specs.Prelude.{◌≡◌, ◌≢◌, ◌⊎◌, ℕ, false, List, None, IsTrue}
use Rattle.sqlite.specs.Store.{Ghosts}
use Rattle.sqlite.specs.Held.{Held, state}
use Rattle.sqlite.specs.State.{HasCleanDisk, KeepsCommit, Survives}
use Rattle.table_rows.specs.Standing.{CommitsNothing}
use Rattle.outbox_tables.specs.declared.fault.OutboxFault.{OutboxFault}
use Rattle.outbox_tables.specs.declared.fault.OutboxFault.TheVariants.{BadFiler, Taken}
use Rattle.outbox_tables.specs.Audit.{IsRefused}
use Rattle.outbox_tables.specs.Earlier.{IsEarlierOf, IsNotMigrated, LeavesMigrated, is_blocked}
use Rattle.outbox_tables.specs.Entries.{Contents}
use Rattle.outbox_tables.specs.Faults.{IsFailure}
use Rattle.outbox_tables.specs.Making.{LeavesMade, IsNotMade}
use Rattle.outbox_tables.specs.Promises.{ForOutbox}

-- What is written is what was committed, and it is still committed: so the rows are as they were.
abbrev pub ShowsCommitted : {S : Type 0} → Ghosts S → Held S → Held S → Type 0
ShowsCommitted g conn back = HasCleanDisk (state g back)
    → KeepsCommit (state g conn) (state g back) × (IsTrue (state g back).is_open
    → (state g back).now ≡ (state g conn).committed)

-- No outbox was made, and the connection comes back as one that may be used again.
pub record GivesBackMaking {S : Type 0} (g : Ghosts S) (filer : List ℕ) (conn : Held S) (fault : OutboxFault)
    (back : Held S) : Type 0 where
  pub autocommit : back.in_transaction ≡ false
  pub unlimited : back.step_limit ≡ None
  pub untouched : (fault ≡ BadFiler) ⊎ (fault ≡ Taken) → back ≡ conn
  pub same : ShowsCommitted g conn back
  -- Any other refusal has its cause in memory, in a statement or in the commit.
  pub why : HasCleanDisk (state g back) → fault ≢ BadFiler → fault ≢ Taken → IsNotMade g filer fault conn back
  -- A crash leaves what it could leave before, or what all the statements make of the database.
  pub crash : Survives (state g conn) (state g back) (LeavesMade g filer conn)

-- No outbox was opened, and the connection comes back as one that may be used again. The fault says why.
pub record GivesBackOpening {S : Type 0} (g : Ghosts S) (conn : Held S) (fault : OutboxFault) (back : Held S)
    : Type 0 where
  pub autocommit : back.in_transaction ≡ false
  pub unlimited : back.step_limit ≡ None
  pub same : ShowsCommitted g conn back
  pub why : HasCleanDisk (state g back) → IsRefused g fault conn back
  -- If the database is an outbox, the cause is memory or the disk.
  pub sound : ForOutbox g conn back (λ _. IsFailure fault)
  -- A crash leaves what it could leave before.
  pub crash : CommitsNothing (state g conn) (state g back)

-- No outbox was migrated, and the connection comes back as one that may be used again. The fault says why.
pub record GivesBackMigrating {S : Type 0} (g : Ghosts S) (conn : Held S) (fault : OutboxFault) (back : Held S)
    : Type 0 where
  pub autocommit : back.in_transaction ≡ false
  pub unlimited : back.step_limit ≡ None
  pub same : ShowsCommitted g conn back
  pub why : HasCleanDisk (state g back) → IsNotMigrated g fault conn back
  -- If the rows hold an outbox in the earlier form, and the name is not in the way, the cause is memory or the disk.
  pub sound : HasCleanDisk (state g back) → (it : Contents) → IsEarlierOf it (state g conn).now
      → is_blocked (state g conn).now.schema ≡ false → IsFailure fault
  -- A crash leaves what it could leave before, or the migrated rows.
  pub crash : Survives (state g conn) (state g back) (LeavesMigrated g conn)
