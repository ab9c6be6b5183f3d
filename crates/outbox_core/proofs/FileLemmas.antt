-- An outbox whose files are given back.
use Rattle.std.proofs.Common.{◌≡◌, ◌⊎◌, inr, false, List, ap, sym, ◌∙◌}
use Rattle.sqlite_disk.specs.declared.Disk.{Ghosts}
use Rattle.sqlite_disk.specs.declared.Files.{Files}
use Rattle.sqlite_store.specs.declared.store.FileStore.{FileStore}
use Rattle.sqlite.specs.Closing.{IsCopied}
use Rattle.sqlite.specs.Files.{over_files, file_state, ExcusesClose, FailsToClose}
use Rattle.sqlite.specs.Held.{Held}
use Rattle.sqlite.specs.State.{store_error}
use Rattle.sqlite.specs.declared.error.Error.{Error}
use Rattle.sqlite_disk.specs.Disk.{MoreFaults}
use Rattle.sqlite_store.specs.FileStore.{view, faults}
use Rattle.sqlite_trees.specs.declared.error.StoreError.{StoreError}
use Rattle.sqlite_trees.specs.declared.error.StoreError.TheVariants as causes
use Rattle.table_rows.specs.Causes.{store_fault}
use Rattle.table_rows.specs.declared.fault.StoreFault.TheVariants as stores
use Rattle.filing_model.specs.Outbox.{Entry}
use Rattle.table_rows.specs.Files.{AreUsable}
use Rattle.table_rows.proofs.FileLemmas.{leaves}
use Rattle.outbox_core.specs.OutboxParts.{OutboxParts, contents, HasEntries}
use Rattle.outbox_core.specs.Files.{HoldOutbox}

module _ {D : Type 0} {g : Ghosts D} where
  -- where it was no want of memory, the database was shut or the disk failed
  pub excused : (conn : Held (FileStore D g)) (last : FileStore D g) (error : Error) → FailsToClose conn last error
      → store_fault error ≡ stores.Store → ((view conn.store).is_open ≡ false)
      ⊎ MoreFaults (faults conn.store) (faults last)
  excused conn last error failed is = of failed.0 (ap store_fault (sym failed.1) ∙ is) failed.2
    where
      of : (cause : StoreError) → store_fault (store_error cause) ≡ stores.Store → ExcusesClose conn last cause
          → ((view conn.store).is_open ≡ false) ⊎ MoreFaults (faults conn.store) (faults last)
      of causes.OutOfMemory is excuse = absurd (cc)
      of causes.Io is excuse = inr excuse
      of causes.Corrupt is excuse = inr excuse
      of causes.Full is excuse = inr excuse
      of causes.Broken is excuse = excuse
      of causes.Unstorable is excuse = absurd excuse

  pub closed_outbox : (box : OutboxParts (FileStore D g)) (entries : List Entry) (files : Files D)
      → HasEntries over_files box entries → IsCopied box.conn files → AreUsable g files
      → HoldOutbox g files (contents box entries)
  closed_outbox box entries files has copied usable =
      let is = has.stands.now copied.was_open in
      record {
        db = (file_state box.conn).now;
        outbox = is;
        held =
            leaves box.conn files copied (file_state box.conn).now is.sound (has.stands.committed copied.was_open);
        usable = usable;
      }
