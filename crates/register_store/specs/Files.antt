-- A register that lies in files, while no store is open.
use Rattle.std.specs.Prelude.{◌≡◌, ℕ, List}
use Rattle.sqlite_disk.specs.declared.Disk.{Ghosts}
use Rattle.sqlite_disk.specs.declared.Files.{Files}
use Rattle.sqlite_store.specs.declared.store.FileStore.{FileStore}
use Rattle.sqlite_store.specs.FileStore.{view}
use Rattle.sqlite_store.specs.FileStore as store
use Rattle.sqlite_trees.specs.declared.error.StoreError.{StoreError}
use Rattle.sqlite_trees.specs.View.{IsClean}
use Rattle.sqlite.specs.Effect.{Database}
use Rattle.sqlite.specs.Held.{Held}
use Rattle.sqlite.specs.State.{store_error}
use Rattle.sqlite.specs.Files.{IsClosed, FailsToClose}
use Rattle.sqlite.specs.declared.error.Error.{Error}
use Rattle.filing_model.specs.Request.{Request}
use Rattle.table_rows.specs.Files.{HoldsDatabase, AreUsable}
use Rattle.table_rows.specs.Causes.{store_fault}
use Rattle.table_rows.specs.declared.fault.StoreFault.{StoreFault}
use Rattle.register_tables.specs.Registers.{IsRegisterOf}

-- the files hold the register of these requests, in the database file alone as well, and can be opened
pub record HoldRegister {D : Type 0} (g : Ghosts D) (files : Files D) (old_style : ℕ) (F : List Request) : Type 0 where
  pub db : Database
  pub register : IsRegisterOf old_style F db
  pub held : HoldsDatabase g files db
  pub usable : AreUsable g files

module _ {D : Type 0} {g : Ghosts D} where
  -- The last commit could not be copied into the database file, and this is the fault by its cause. Nothing else
  -- failed, and a crash leaves no more than one before could.
  pub record IsNotCopied (conn : Held (FileStore D g)) (last : FileStore D g) (fault : StoreFault) : Type 0 where
    pub error : Error
    pub named : fault ≡ store_fault error
    pub cause : StoreError
    pub by : error ≡ store_error cause
    pub closed : IsClosed conn last
    pub failed : IsClean (view last) → FailsToClose conn last error

  -- these are the files of the store as the close left it
  pub record AreLeft (conn : Held (FileStore D g)) (fault : StoreFault) (files : Files D) : Type 0 where
    pub last : FileStore D g
    pub same : store.files last ≡ (files.log, files.db)
    pub why : IsNotCopied conn last fault
