-- A register whose files are given back.
use Rattle.std.proofs.Common.{List}
use Rattle.sqlite_disk.specs.declared.Disk.{Ghosts}
use Rattle.sqlite_disk.specs.declared.Files.{Files}
use Rattle.sqlite_store.specs.declared.store.FileStore.{FileStore}
use Rattle.sqlite.specs.Closing.{IsCopied}
use Rattle.sqlite.specs.Files.{over_files, file_state}
use Rattle.filing_model.specs.Request.{Request}
use Rattle.table_rows.specs.Files.{AreUsable}
use Rattle.table_rows.proofs.FileLemmas.{leaves}
use Rattle.register_store.specs.Store.{StoreParts, HasRequests}
use Rattle.register_store.specs.Files.{HoldRegister}

module _ {D : Type 0} {g : Ghosts D} where
  pub closed_register : (store : StoreParts (FileStore D g)) (F : List Request) (files : Files D)
      → HasRequests over_files store F → IsCopied store.conn files → AreUsable g files
      → HoldRegister g files store.old_style F
  closed_register store F files has copied usable =
      let is = has.stands.now copied.was_open in
      record {
        db = (file_state store.conn).now;
        register = is;
        held = leaves store.conn files copied (file_state store.conn).now is.sound
            (has.stands.committed copied.was_open);
        usable = usable;
      }
