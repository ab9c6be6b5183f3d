-- What opening the database that lies in a place does.
use Rattle.std.specs.Prelude.{◌≡◌, Bool, true, false, [], Option, Some, None, Result, Err, IfOk, IfErr, ⊤}
use Rattle.sqlite_disk.specs.declared.Disk.{Ghosts}
use Rattle.sqlite_disk.specs.declared.Files.{Files}
use Rattle.sqlite_store.specs.declared.store.FileStore.{FileStore}
use Rattle.sqlite.specs.Held.{Held}
use Rattle.sqlite.specs.State.{HasCleanDisk}
use Rattle.sqlite.specs.Closing.{files_left}
use Rattle.sqlite.specs.Files.{file_state, image_of, Finds, IsOpened, IsNothing, FailsToOpenFiles, LeavesFiles}
use Rattle.sqlite.specs.Files.{IsCleanLeft}
use Rattle.sqlite.specs.declared.error.Error.{Error}
use Rattle.sqlite.specs.declared.file.Leftover.{Leftover}
use Rattle.command_line.specs.declared.fault.DatabaseFault.{DatabaseFault}
use Rattle.command_line.specs.declared.fault.DatabaseFault.TheVariants.{Missing, Empty}
use Rattle.database_places.specs.declared.opening.Opening.{Opening}
use Rattle.database_places.specs.declared.opening.Opening.TheVariants.{Found, Made}
use Rattle.database_places.specs.declared.opening.Unopened.{Unopened}
use Rattle.database_places.specs.Faults.{database_fault}

-- the database has to be there
abbrev pub is_found : Opening → Bool
is_found (Found cache) = true
is_found (Made cache) = false

-- there are no files, if that is known
abbrev pub LacksFiles : {D : Type 0} → Option (Option (Files D)) → Type 0
LacksFiles None = ⊤
LacksFiles (Some there) = there ≡ None

-- the database file, if it is known, has no bytes
abbrev pub LacksBytes : {D : Type 0} → Ghosts D → Option (Option (Files D)) → Type 0
LacksBytes g (Some (Some files)) = g.seen files.db ≡ []
LacksBytes g _ = ⊤

module _ {D : Type 0} {g : Ghosts D} where
  -- if the disk gave back what was written, the connection is open, and shows what these files held
  abbrev pub IsFoundIn : Files D → Held (FileStore D g) → Type 0
  IsFoundIn files conn = HasCleanDisk (file_state conn) → Finds files conn × IsOpened conn

  -- The files that lay there are taken out, and the connection is to them; if there were none, it is to new files,
  -- which hold nothing. Of an unknown place only this is known: the connection is open.
  abbrev pub ComesFrom : Option (Option (Files D)) → Option (Option (Files D)) → Held (FileStore D g) → Type 0
  ComesFrom None new conn = HasCleanDisk (file_state conn) → IsOpened conn
  ComesFrom (Some None) new conn =
      (new ≡ Some None) × (files : Files D) × IsNothing (image_of g files) × IsFoundIn files conn
  ComesFrom (Some (Some files)) new conn = (new ≡ Some None) × IsFoundIn files conn

-- The database of these files was not opened, the fault says why, and these files are left. If the disk gave back what
-- was written, they still have the database that they held, if they held one.
pub record IsRefused {D : Type 0} (g : Ghosts D) (files there : Files D) (fault : DatabaseFault) : Type 0 where
  pub error : Error
  pub told : fault ≡ database_fault error
  pub left : Leftover D g
  pub same : (there.log, there.db) ≡ files_left left
  pub failed : IsCleanLeft left → FailsToOpenFiles files left error
  pub unharmed : IsCleanLeft left → LeavesFiles files left

-- the database was not opened for this fault, and its files were not taken
abbrev pub untouched : DatabaseFault → Unopened
untouched fault = record { fault = fault; was_taken = false }

-- what lay there was not taken, and lies there; or it was taken, and what a refused opening left of it lies there again
abbrev pub StaysIn : {D : Type 0} → Ghosts D → Option (Option (Files D)) → Option (Option (Files D)) → DatabaseFault
    → Bool → Type 0
StaysIn g None new fault was_taken = ⊤
StaysIn g (Some there) new fault false = new ≡ Some there
StaysIn {D} g (Some None) new fault true =
    (files : Files D) × (there : Files D) × IsNothing (image_of g files) × (new ≡ Some (Some there))
    × IsRefused g files there fault
StaysIn {D} g (Some (Some files)) new fault true =
    (there : Files D) × (new ≡ Some (Some there)) × IsRefused g files there fault

-- What opening the database of a place does, which has to be there or is made, by the files that lie there before and
-- after.
pub record OpensPlace {D : Type 0} (g : Ghosts D) (has_to_be_there : Bool) (old new : Option (Option (Files D)))
    (result : Result (Held (FileStore D g)) Unopened) : Type 0 where
  pub comes : IfOk result (ComesFrom old new)
  pub refused : IfErr result (λ it. StaysIn g old new it.fault it.was_taken)
  -- If the database has to be there, and no file lies there, the fault is Missing, and it is Missing only then. Empty
  -- comes only for a file without bytes that has to have a database; an opening may report such a file by another
  -- fault.
  pub absent : has_to_be_there ≡ true → old ≡ Some None → result ≡ Err (untouched Missing)
  pub missing : IfErr result (λ it. it.fault ≡ Missing → (has_to_be_there ≡ true) × LacksFiles old)
  pub empty : IfErr result (λ it. it.fault ≡ Empty → (has_to_be_there ≡ true) × LacksBytes g old)
