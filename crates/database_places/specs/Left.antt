-- What a store leaves in its two files if its process ends before it is closed, and what files hold that were not
-- closed; own rules.
use Rattle.std.specs.Prelude.{◌≡◌, ◌⊎◌, IsTrue}
use Rattle.sqlite_disk.specs.declared.Disk.{Ghosts}
use Rattle.sqlite_disk.specs.declared.Files.{Files}
use Rattle.sqlite_disk.specs.Disk.{MoreFaults}
use Rattle.sqlite_store.specs.declared.store.FileStore.{FileStore}
use Rattle.sqlite_store.specs.FileStore.{view}
use Rattle.sqlite_store.specs.FileStore as store
use Rattle.sqlite.specs.Effect.{Database, IsDatabase}
use Rattle.sqlite.specs.Held.{Held}
use Rattle.sqlite.specs.Files.{faults_of, faults_left, image_of, AreFound, HoldsDatabase, IsFullLeft, IsClosed}
use Rattle.sqlite.specs.declared.error.Error.{Error}
use Rattle.sqlite.specs.declared.error.Error.TheVariants.{SqliteFailure}
use Rattle.sqlite.specs.declared.error.ErrorCode.TheVariants.{OutOfMemory}
use Rattle.sqlite.specs.declared.file.Leftover.{Leftover}

-- The log and the database file together hold this database, which is sound: what was committed and is in the log alone
-- counts.
pub record HoldWithLog {D : Type 0} (g : Ghosts D) (files : Files D) (db : Database) : Type 0 where
  pub sound : IsDatabase db
  pub held : ∥ HoldsDatabase (image_of g files) db.trees ∥₁

-- An opening reads this database in these files: the one that they hold, if they hold one. In damaged files, which hold
-- none, it may read one too.
pub record IsReadIn {D : Type 0} (g : Ghosts D) (files : Files D) (db : Database) : Type 0 where
  pub sound : IsDatabase db
  pub found : AreFound g files db.trees
  pub only : (held : Database) → HoldWithLog g files held → db ≡ held

module _ {D : Type 0} {g : Ghosts D} where
  -- The process was killed: a read of each file returns what it returned before. Nothing was copied, cut or synced
  -- first.
  pub record AreLeftByKill (it : FileStore D g) (files : Files D) : Type 0 where
    pub log : g.seen files.log ≡ g.seen (store.files it).0
    pub db : g.seen files.db ≡ g.seen (store.files it).1

  -- The machine stopped: each file has contents that its disk may have then, whatever the other file has. What was
  -- written since the file's last sync may be there in part, and the end of the log may be torn.
  pub record AreLeftByStop (it : FileStore D g) (files : Files D) : Type 0 where
    pub log : g.may_leave (store.files it).0 (g.seen files.log)
    pub db : g.may_leave (store.files it).1 (g.seen files.db)

  -- The process was killed, or the machine stopped.
  abbrev pub AreLeftBy : FileStore D g → Files D → Type 0
  AreLeftBy it files = AreLeftByKill it files ⊎ AreLeftByStop it files

  -- what each connection keeps of its store: a tree is numbered by its row in `sqlite_schema`
  abbrev pub IsNumbered : FileStore D g → Type 0
  IsNumbered it = IsTrue (view it).is_numbered

  -- The last store of a connection: its own, or the one that a close which failed has left.
  abbrev pub IsLastOf : Held (FileStore D g) → FileStore D g → Type 0
  IsLastOf conn last = (last ≡ conn.store) ⊎ IsClosed conn last

  -- The process of a connection ends, killed or with the machine, and these are the files then.
  pub record EndsIn (conn : Held (FileStore D g)) (files : Files D) : Type 0 where
    pub last : FileStore D g
    pub is_last : IsLastOf conn last
    pub numbered : IsNumbered last
    pub left : AreLeftBy last files

  -- An opening failed for memory, for the disk or for a limit of the format, and not for what the files hold.
  abbrev pub FailsForCause : Files D → Leftover D g → Error → Type 0
  FailsForCause files left error =
      (error ≡ SqliteFailure OutOfMemory) ⊎ (MoreFaults (faults_of g files) (faults_left left) ⊎ IsFullLeft left)
