-- The outbox that lies in two files, while no connection is open.
use Rattle.std.specs.Prelude.{◌≡◌, ◌⊎◌, false, IsTrue, List, Result, IfOk, IfErr}
use Rattle.sqlite_disk.specs.declared.Disk.{Ghosts}
use Rattle.sqlite_disk.specs.declared.Files.{Files}
use Rattle.sqlite_disk.specs.Disk.{MoreFaults}
use Rattle.sqlite_store.specs.declared.store.FileStore.{FileStore}
use Rattle.sqlite_store.specs.FileStore.{view, faults, files as store_files}
use Rattle.sqlite_trees.specs.View.{IsClean}
use Rattle.sqlite.specs.WalReads.{AreClean}
use Rattle.sqlite.specs.Closing.{IsCopied}
use Rattle.sqlite.specs.Files.{over_files, IsClosed, FailsToClose}
use Rattle.sqlite.specs.Effect.{Database}
use Rattle.sqlite.specs.Held.{Held}
use Rattle.sqlite.specs.declared.error.Error.{Error}
use Rattle.filing_model.specs.Outbox.{Entry}
use Rattle.table_rows.specs.Files.{HoldsDatabase, AreUsable}
use Rattle.table_rows.specs.Causes.{store_fault}
use Rattle.table_rows.specs.declared.fault.StoreFault.{StoreFault}
use Rattle.table_rows.specs.declared.fault.StoreFault.TheVariants as stores
use Rattle.outbox_tables.specs.Entries.{Contents}
use Rattle.outbox_tables.specs.Rows.{IsOutboxOf}
use Rattle.outbox_core.specs.OutboxParts.{OutboxParts, contents, HasEntries}

-- an opening of these files finds the outbox of these contents
pub record HoldOutbox {D : Type 0} (g : Ghosts D) (files : Files D) (it : Contents) : Type 0 where
  pub db : Database
  pub outbox : IsOutboxOf it db
  pub held : HoldsDatabase g files db
  pub usable : AreUsable g files

module _ {D : Type 0} {g : Ghosts D} where
  -- The last commit could not be copied into the database file, and this is the fault by its cause. A crash leaves no
  -- more than one before could.
  pub record IsNotCopied (conn : Held (FileStore D g)) (last : FileStore D g) (fault : StoreFault) : Type 0 where
    pub error : Error
    pub named : fault ≡ store_fault error
    pub closed : IsClosed conn last
    pub failed : IsClean (view last) → FailsToClose conn last error
    -- The fault is Store only if the database was shut before, or the disk failed or refused during the close.
    -- Otherwise it is Memory.
    pub store : IsClean (view last) → fault ≡ stores.Store
        → ((view conn.store).is_open ≡ false) ⊎ MoreFaults (faults conn.store) (faults last)

  -- these are the files as the close left them
  pub record AreLeft (conn : Held (FileStore D g)) (fault : StoreFault) (files : Files D) : Type 0 where
    pub last : FileStore D g
    pub same : store_files last ≡ (files.log, files.db)
    pub why : IsNotCopied conn last fault

-- The files of an outbox were given back, with what was committed in the database file; or the close was refused so.
pub record GivesFilesBack {D E : Type 0} (g : Ghosts D) (outbox : OutboxParts (FileStore D g))
    (result : Result (Files D) E) (Refused : E → Type 0) : Type 0 where
  pub held : IfOk result (λ files. AreClean g files.log files.db → (entries : List Entry)
      → HasEntries over_files outbox entries → HoldOutbox g files (contents outbox entries))
  pub copied : IfOk result (λ files. AreClean g files.log files.db → IsCopied outbox.conn files)
  pub usable : IfOk result (λ files. IsTrue (g.is_usable files.log) × IsTrue (g.is_usable files.db))
  pub fault : IfErr result Refused
