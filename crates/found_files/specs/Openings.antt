-- What the next opening of a place finds.
use Rattle.std.specs.Prelude.{◌≡◌, ◌+◌, ◌-◌, ◌^◌, min, true, false}
use Rattle.sqlite_disk.specs.declared.Files.{Files}
use Rattle.sqlite_disk.specs.declared.calls.Calls as calls
use Rattle.found_files.specs.Found.{IsNew}
use Rattle.found_files.specs.Held.{held_at}
use Rattle.found_files.specs.declared.file.FoundFile.{FoundFile}
use Rattle.found_files.specs.declared.openings.Openings.{Openings}

-- These are the files of the next opening: they hold what it finds, by its number, and the one after it has a number of
-- its own.
pub record IsNext {C : Type 0} {g : calls.Ghosts C} (old new : Openings) (files : Files (FoundFile C g)) : Type 0 where
  pub log : IsNew (held_at old.found.now.items old.opened true) files.log
  pub db : IsNew (held_at old.found.now.items old.opened false) files.db
  pub counted : new.opened ≡ min (old.opened + 1) (2 ^ 64 - 1)
  pub same : new.found ≡ old.found
