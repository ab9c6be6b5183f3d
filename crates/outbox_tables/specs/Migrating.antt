-- What is promised of bringing an outbox from the earlier form into the present one.
use Rattle.std.specs.Prelude.{◌≡◌, ◌≤◌, ◌^◌, true, false, List, length, Result, IfOk, IfErr, OnOk, string_bytes}
use Rattle.key_string.specs.Filer.{is_filer}
use Rattle.sqlite.specs.Store.{Ghosts}
use Rattle.sqlite.specs.Held.{Held, state}
use Rattle.sqlite.specs.State.{HasCleanDisk, Survives}
use Rattle.filing_model.specs.Outbox.{Entry}
use Rattle.table_rows.specs.Standing.{HasCommitted, IsLasting, KeepsOnErr}
use Rattle.outbox_tables.specs.declared.fault.OutboxFault.{OutboxFault}
use Rattle.outbox_tables.specs.declared.opening.FoundOutbox.{FoundOutbox}
use Rattle.outbox_tables.specs.Entries.{Contents, contents_of}
use Rattle.outbox_tables.specs.Rows.{IsOutboxOf}
use Rattle.outbox_tables.specs.Earlier.{IsAlone, IsEarlierOf, IsMigrated, IsNotMigrated, is_blocked}
use Rattle.outbox_tables.specs.Earlier.{LeavesMigrated}
use Rattle.outbox_tables.specs.Faults.{IsFailure}

-- The outbox that the database held in the earlier form was brought into the present one over a connection, in one
-- transaction: its filer, and how many entries it has. Or it was refused. What is said of the rows holds if the disk is
-- clean at the end.
pub record MigratesOutbox {S : Type 0} (g : Ghosts S) (old new : Held S)
    (result : Result FoundOutbox OutboxFault) : Type 0 where
  pub autocommit : new.in_transaction ≡ false
  -- If the database has no other tables, the rows held an outbox in that form, and hold the same in the present one.
  pub migrated :
      HasCleanDisk (state g new) → IsAlone (state g old).now.schema
      → IfOk result (λ found.
      (entries : List Entry)
      × IsEarlierOf (contents_of (string_bytes found.filer) entries) (state g old).now
      × HasCommitted (IsOutboxOf (contents_of (string_bytes found.filer) entries)) (state g new)
      × (found.count ≡ length entries))
  pub code : IfOk result (λ found. is_filer (string_bytes found.filer) ≡ true)
  pub few : IfOk result (λ found. found.count ≤ 2 ^ 62)
  -- Whatever tables there were, the filer and the count are those of the rows that were read. Then both statements, and
  -- they alone, were run in one transaction and committed.
  pub ran : HasCleanDisk (state g new)
      → IfOk result (λ found. IsMigrated g (string_bytes found.filer) found.count old new)
  -- A refusal says why. If the rows hold an outbox in that form and the name is not in the way, the cause is memory or
  -- the disk. A refusal leaves what was committed.
  pub refused : HasCleanDisk (state g new) → IfErr result (λ fault. IsNotMigrated g fault old new)
  pub sound :
      HasCleanDisk (state g new)
      → IfErr result (λ fault. (it : Contents) → IsEarlierOf it (state g old).now
      → is_blocked (state g old).now.schema ≡ false → IsFailure fault)
  pub undone : KeepsOnErr (state g old) (state g new) result
  -- A crash in the call leaves what it could leave before, or the migrated rows; one after it, the migrated rows.
  pub crash : Survives (state g old) (state g new) (LeavesMigrated g old)
  pub durable : HasCleanDisk (state g new) → OnOk result (IsLasting (state g new))
