-- What is promised of reading the outbox of a database.
use Rattle.std.specs.Prelude.{◌≡◌, ◌≤◌, ◌^◌, true, false, List, length, Result, IsTrue, IfOk, IfErr, OnOk, string_bytes}
use Rattle.key_string.specs.Filer.{is_filer}
use Rattle.sqlite.specs.Store.{Ghosts}
use Rattle.sqlite.specs.Held.{Held, state}
use Rattle.sqlite.specs.State.{HasCleanDisk}
use Rattle.filing_model.specs.Outbox.{Entry}
use Rattle.table_rows.specs.Standing.{HasCommitted, CommitsNothing, StaysCommitted}
use Rattle.outbox_tables.specs.declared.fault.OutboxFault.{OutboxFault}
use Rattle.outbox_tables.specs.declared.opening.FoundOutbox.{FoundOutbox}
use Rattle.outbox_tables.specs.Schema.{IsDeclared}
use Rattle.outbox_tables.specs.Entries.{contents_of}
use Rattle.outbox_tables.specs.Rows.{IsOutboxOf}
use Rattle.outbox_tables.specs.Faults.{IsFailure, IsOfOpening}
use Rattle.outbox_tables.specs.Audit.{IsRefused, SaysOutbox}
use Rattle.outbox_tables.specs.Promises.{ForOutbox}

-- The outbox of a database was read over a connection: its filer, and how many entries it has. Or it was refused.
-- Nothing was written. What is said of the rows holds if the disk is clean at the end.
pub record ReadsOutbox {S : Type 0} (g : Ghosts S) (old new : Held S) (result : Result FoundOutbox OutboxFault)
    : Type 0 where
  -- If the tables are declared as an outbox has them, the rows are those of the outbox that is answered, and are
  -- committed.
  pub found :
      HasCleanDisk (state g new) → IsDeclared (state g old).now.schema
      → IfOk result (λ found.
      (entries : List Entry)
      × IsOutboxOf (contents_of (string_bytes found.filer) entries) (state g old).now
      × HasCommitted (IsOutboxOf (contents_of (string_bytes found.filer) entries)) (state g new)
      × (found.count ≡ length entries))
  -- However the tables are declared, only a database that says so is read as an outbox.
  pub says : HasCleanDisk (state g new) → IfOk result (λ found. SaysOutbox g (string_bytes found.filer) old)
  pub «open» : HasCleanDisk (state g new) → IsDeclared (state g old).now.schema
      → OnOk result (IsTrue (state g new).is_open)
  pub code : IfOk result (λ found. is_filer (string_bytes found.filer) ≡ true)
  pub few : IfOk result (λ found. found.count ≤ 2 ^ 62)
  -- A refusal says why. If the database is an outbox, the cause is memory or the disk.
  pub refused : HasCleanDisk (state g new) → IfErr result (λ fault. IsRefused g fault old new)
  pub sound : ForOutbox g old new (λ _. IfErr result IsFailure)
  pub others : IfErr result IsOfOpening
  -- Whatever database it is, what is committed is what was committed, and a crash leaves what it could leave before.
  pub kept : StaysCommitted g old new
  pub crash : CommitsNothing (state g old) (state g new)
  pub autocommit : new.in_transaction ≡ false
