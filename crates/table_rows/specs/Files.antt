-- A database that lies in two files, its log and the database file, while no connection is open.
use Rattle.std.specs.Prelude.{IsTrue}
use Rattle.sqlite_disk.specs.declared.Disk.{Ghosts}
use Rattle.sqlite_disk.specs.declared.Files.{Files}
use Rattle.sqlite.specs.Closing.{HoldsAlone}
use Rattle.sqlite.specs.Effect.{Database, IsDatabase}
use Rattle.sqlite.specs.Files.{image_of}

-- the files hold this database, which is sound, and the database file holds it without the log
pub record HoldsDatabase {D : Type 0} (g : Ghosts D) (files : Files D) (db : Database) : Type 0 where
  pub sound : IsDatabase db
  pub held : HoldsAlone (image_of g files) db.trees

-- no sync of either has failed
pub record AreUsable {D : Type 0} (g : Ghosts D) (files : Files D) : Type 0 where
  pub log : IsTrue (g.is_usable files.log)
  pub db : IsTrue (g.is_usable files.db)
