-- Outboxes that lie in files which were not closed, and what an opening finds there; own rules.
use Rattle.std.specs.Prelude.{◌≡◌, ◌⊎◌, ℕ, Some, Result, IfOk}
use Rattle.sqlite_disk.specs.declared.Disk.{Ghosts}
use Rattle.sqlite_disk.specs.declared.Files.{Files}
use Rattle.sqlite_store.specs.declared.store.FileStore.{FileStore}
use Rattle.sqlite.specs.Held.{Held}
use Rattle.sqlite.specs.Files.{over_files, file_state}
use Rattle.http_messages.specs.Reply.{ReplyParts}
use Rattle.filing_model.specs.Outbox.{Entry, moved}
use Rattle.outbox_tables.specs.declared.fault.OutboxFault.{OutboxFault}
use Rattle.outbox_tables.specs.Entries.{Contents, entry_at}
use Rattle.outbox_tables.specs.Rows.{IsOutboxOf}
use Rattle.outbox_core.specs.Entries.{with_state}
use Rattle.outbox_core.specs.OutboxParts.{OutboxParts, HasEntries}
use Rattle.outbox_core.specs.HandedOut.{FindsOrGivesBack}
use Rattle.outbox_process.specs.Process.{HoldOutboxWithLog}

-- the files hold the outbox of these contents, or that of those
abbrev pub HoldEitherOutbox : {D : Type 0} → Ghosts D → Files D → Contents → Contents → Type 0
HoldEitherOutbox g files before after = HoldOutboxWithLog g files before ⊎ HoldOutboxWithLog g files after

-- the id names an entry, and the files hold the outbox after that entry moved by the reply
abbrev pub HoldMovedOutbox : {D : Type 0} → Ghosts D → Files D → Contents → ℕ → ReplyParts → Type 0
HoldMovedOutbox g files before id reply =
    (e : Entry) × (entry_at before.entries id ≡ Some e)
    × HoldOutboxWithLog g files (with_state before id (moved e.state reply))

-- The connection is to the outbox of these contents, and an outbox that is opened over it has these entries and no
-- others.
pub record OpensAsOutbox {D : Type 0} {g : Ghosts D} (conn : Held (FileStore D g)) (it : Contents) : Type 0 where
  pub rows : IsOutboxOf it (file_state conn).now
  pub outbox : (result : Result (OutboxParts (FileStore D g)) (OutboxFault × Held (FileStore D g)))
      → FindsOrGivesBack over_files conn result
      → IfOk result (λ outbox. (outbox.filer ≡ it.filer) × HasEntries over_files outbox it.entries)
