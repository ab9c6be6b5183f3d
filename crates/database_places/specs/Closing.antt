-- What closing a database leaves in its files.
use Rattle.std.specs.Prelude.{◌≡◌, Option, Some, None}
use Rattle.sqlite_disk.specs.declared.Disk.{Ghosts}
use Rattle.sqlite_disk.specs.declared.Files.{Files}
use Rattle.sqlite_store.specs.declared.store.FileStore.{FileStore}
use Rattle.sqlite_store.specs.FileStore.{view}
use Rattle.sqlite_store.specs.FileStore as store
use Rattle.sqlite_trees.specs.View.{IsClean}
use Rattle.sqlite_wal.specs.Reads.{AreClean}
use Rattle.sqlite.specs.Closing.{IsCopied}
use Rattle.sqlite.specs.Effect.{Database, IsDatabase}
use Rattle.sqlite.specs.Held.{Held}
use Rattle.sqlite.specs.Files.{file_state, IsClosed, FailsToClose}
use Rattle.sqlite.specs.declared.error.Error.{Error}
use Rattle.table_rows.specs.Files.{HoldsDatabase, AreUsable}
use Rattle.database_places.specs.Left.{IsNumbered}

-- The files can be opened. If the disk gave back what was written, the connection was open, and they hold what it
-- had committed, the database file alone as well.
pub record IsClosedIn {D : Type 0} (g : Ghosts D) (conn : Held (FileStore D g)) (files : Files D) : Type 0 where
  pub usable : AreUsable g files
  pub copied : AreClean g files.log files.db → IsCopied conn files
  pub holds : AreClean g files.log files.db → (db : Database) → IsDatabase db → (file_state conn).committed ≡ db
      → HoldsDatabase g files db

module _ {D : Type 0} {g : Ghosts D} where
  -- These are the files as the connection left them: a crash leaves no more than one before could.
  pub record IsGivenUp (conn : Held (FileStore D g)) (files : Files D) : Type 0 where
    pub last : FileStore D g
    pub same : store.files last ≡ (files.log, files.db)
    pub closed : IsClosed conn last
    pub numbered : IsClean (view last) → IsNumbered last

  -- These are the files as the connection left them, and the last commit was not copied into the database file: the
  -- error says why.
  pub record IsNotClosed (conn : Held (FileStore D g)) (files : Files D) (error : Error) : Type 0 where
    pub last : FileStore D g
    pub same : store.files last ≡ (files.log, files.db)
    pub closed : IsClosed conn last
    pub failed : IsClean (view last) → FailsToClose conn last error

  -- the files lie in the place, if that is known, as the connection that was given up left them
  abbrev pub LieGivenUp : Option (Option (Files D)) → Option (Option (Files D)) → Held (FileStore D g) → Type 0
  LieGivenUp None new conn = Unit {0}
  LieGivenUp (Some there) new conn = (files : Files D) × (new ≡ Some (Some files)) × IsGivenUp conn files
