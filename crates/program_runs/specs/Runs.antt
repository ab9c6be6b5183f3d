-- What a run of `outbox` makes of what lies in its place.
use Rattle.std.specs.Prelude.{◌≡◌, ◌≢◌, ◌⊎◌, ℕ, true, List, [], ◌∷◌, ◌++◌, map, Option, Some, None}
use Rattle.std.specs.Borrow.{Bor}
use Rattle.sqlite_disk.specs.declared.Disk.{Ghosts}
use Rattle.sqlite_disk.specs.declared.Files.{Files}
use Rattle.filing_model.specs.Prefix.{IsPrefixOf}
use Rattle.outbox_tables.specs.Entries.{Contents}
use Rattle.outbox_process.specs.Dials.{Output, Traffic, Grows}
use Rattle.outbox_process.specs.Process.{Parts, HoldOutboxWithLog}
use Rattle.outbox_process.specs.declared.errand.Which.{Which}
use Rattle.outbox_process.specs.declared.errand.Which.TheVariants.{Next, Entry, All}
use Rattle.database_places.specs.Places.{Lie}
use Rattle.outbox_process.specs.declared.target.Target.{Target}
use Rattle.outbox_commands.specs.Puts.{AreReadFor}
use Rattle.outbox_commands.specs.declared.putting.ReportFile.{ReportFile}
use Rattle.outbox_commands.specs.declared.options.Task.{Task}
use Rattle.outbox_commands.specs.declared.options.Task.TheVariants.{Init, Put, Migrate, Send, Ask, Status, Show, Body}
use Rattle.program_runs.specs.Deeds.{Deed, Added, Wrote, Heard, Asked, AreDone}

-- the outbox of these contents lies there, by the log and the database file together; or no files do, as before an
-- outbox is made, and there are no entries
abbrev pub LieOutbox : {D : Type 0} → Ghosts D → Option (Option (Files D)) → Contents → Type 0
LieOutbox g lying it = Lie lying (λ files. HoldOutboxWithLog g files it) ⊎ ((lying ≡ Some None) × (it.entries ≡ []))

-- no files lie there only if none lay there before
abbrev pub AreNotGone : {D : Type 0} → Option (Option (Files D)) → Option (Option (Files D)) → Type 0
AreNotGone old new = new ≡ Some None → old ≡ Some None

-- The process is closed, it is certain what lies in its place, and the outbox of these contents does, or is not made
-- yet.
pub record LiesClosed {D : Type 0} {g : Ghosts D} (process : Parts g) (it : Contents) : Type 0 where
  pub closed : process.outbox ≡ None
  pub certain : process.is_certain ≡ true
  pub there : LieOutbox g process.lying it

-- From what lay in the place these deeds lead to what lies there now.
pub record IsRunBy {D : Type 0} {g : Ghosts D} (it : Contents) (old new : Parts g) (Are : List Deed → Type 0)
    : Type 0 where
  pub deeds : List Deed
  pub are : Are deeds
  pub after : Contents
  pub done : AreDone it deeds after
  pub lies : LiesClosed new after
  pub stays : AreNotGone old.lying new.lying

-- ---- which deeds

-- these reports are put in, one after another
abbrev pub putting : Target → List ReportFile → List Deed
putting target reports = map (λ report. Added report.key target.number report.body.items) reports

-- Reports of these files were put in, under the key that was given, or each under one at random, to replace the filing
-- that was named, or none: the first of them, and all if the status is 0. Or nothing was, and the status is another.
abbrev pub AreOfPutting : List (Bor (List ℕ)) → Option (Bor (List ℕ)) → Target → ℕ → List Deed → Type 0
AreOfPutting files text target status deeds =
    ((status ≢ 0) × (deeds ≡ []))
    ⊎ ((reports : List ReportFile) × AreReadFor text files reports × IsPrefixOf deeds (putting target reports)
    × (status ≡ 0 → deeds ≡ putting target reports))

-- what was written for one entry and what was read for it, if it was read
abbrev pub AreOfOne : ℕ → List Deed → Type 0
AreOfOne id [] = Unit {0}
AreOfOne id (Wrote other written ∷ []) = other ≡ id
AreOfOne id (Wrote other written ∷ Heard third asks read to ∷ []) = (other ≡ id) × (third ≡ id)
AreOfOne id _ = ⊥

-- those of the entries of these ids, one after another
abbrev pub AreOfTurns : List ℕ → List Deed → Type 0
AreOfTurns [] deeds = deeds ≡ []
AreOfTurns (id ∷ ids) deeds =
    (first : List Deed) × (rest : List Deed) × (deeds ≡ first ++ rest) × AreOfOne id first × AreOfTurns ids rest

-- what a `send` does
abbrev pub AreOfSend : Which → List Deed → Type 0
AreOfSend Next deeds = (id : ℕ) × AreOfOne id deeds
AreOfSend (Entry id) deeds = AreOfOne id deeds
AreOfSend All deeds = (ids : List ℕ) × AreOfTurns ids deeds

-- one request was written, whole or in part, or two, the first of which asks for the filing; or none
abbrev pub AreOfAsk : List Deed → Type 0
AreOfAsk deeds =
    (deeds ≡ []) ⊎ (((written : List ℕ) × (deeds ≡ Asked written ∷ []))
    ⊎ ((looked written : List ℕ) × (deeds ≡ Asked looked ∷ Asked written ∷ [])))

-- what a task that ends with this status does with an outbox
abbrev pub AreOfTask : Task → ℕ → List Deed → Type 0
AreOfTask (Init database filer) status deeds = deeds ≡ []
AreOfTask (Put database files key target strict) status deeds = AreOfPutting files.items key target status deeds
AreOfTask (Migrate database) status deeds = deeds ≡ []
AreOfTask (Send database peer which strict) status deeds = AreOfSend which deeds
AreOfTask (Ask database peer id form) status deeds = AreOfAsk deeds
AreOfTask (Status database) status deeds = deeds ≡ []
AreOfTask (Show database entry) status deeds = deeds ≡ []
AreOfTask (Body database entry) status deeds = deeds ≡ []

-- ---- on which connections

-- what these deeds wrote, each on a connection of its own
abbrev pub written_in : List Deed → List (List ℕ)
written_in [] = []
written_in (Added key target body ∷ deeds) = written_in deeds
written_in (Wrote id written ∷ deeds) = written ∷ written_in deeds
written_in (Heard id asks read to ∷ deeds) = written_in deeds
written_in (Asked written ∷ deeds) = written ∷ written_in deeds

-- they wrote what was written on the connections that the network recorded meanwhile
abbrev pub AreOfNetwork : Traffic → Traffic → List Deed → Type 0
AreOfNetwork net net' deeds =
    (outputs : List Output) × Grows net.over net'.over outputs
    × (map (λ output. output.bytes) outputs ≡ written_in deeds)

-- they are those of a run of this task over this network, which ended with this status
abbrev pub AreOfRun : Task → Traffic → Traffic → ℕ → List Deed → Type 0
AreOfRun task net net' status deeds = AreOfTask task status deeds × AreOfNetwork net net' deeds

-- ---- which tasks

-- if the task is to make an outbox, it is to be this filer's
abbrev pub IsFor : List ℕ → Task → Type 0
IsFor filer (Init database other) = other.now ≡ filer
IsFor filer task = Unit {0}
