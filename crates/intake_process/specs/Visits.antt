-- What a visit to the register that lies in a place does: it is opened, an errand to it is done, and it is closed.
-- `out` and `out'` are what the output and the folder have before and after, if that is known.
use Rattle.std.specs.Prelude.{◌≡◌, ℕ, Bool, true, false, List, Option, None, Result, Ok, Err, OnOk, is_err, ◌||◌}
use Rattle.sqlite_disk.specs.declared.Disk.{Ghosts}
use Rattle.sqlite_disk.specs.declared.Files.{Files}
use Rattle.sqlite_store.specs.declared.store.FileStore.{FileStore}
use Rattle.sqlite.specs.declared.error.Error.{Error}
use Rattle.sqlite.specs.Effect.{Database}
use Rattle.sqlite.specs.Files.{over_files}
use Rattle.sqlite.specs.Held.{Held}
use Rattle.filing_model.specs.Request.{Request, firsts}
use Rattle.register_pages.specs.Pages.{File, WritesSite}
use Rattle.database_places.specs.Closing.{IsGivenUp}
use Rattle.database_places.specs.Left.{HoldWithLog}
use Rattle.database_places.specs.Opening.{OpensPlace}
use Rattle.database_places.specs.declared.opening.Unopened.{Unopened}
use Rattle.database_places.specs.Places.{Lie, IsHonest}
use Rattle.database_places.specs.Places as place
use Rattle.database_places.specs.declared.holding.Holding.TheVariants.{Nothing}
use Rattle.register_extracts.specs.declared.fault.Why.{Why}
use Rattle.register_extracts.specs.declared.fault.Why.TheVariants as why
use Rattle.intake_process.specs.declared.tasks.errand.Errand.{Errand}
use Rattle.intake_process.specs.declared.visiting.Visited.{Visited}
use Rattle.intake_process.specs.Errands.{AreMomentsFor, FillsFolder, IsRegisterFor, RunsErrand, Tells, meaning}
use Rattle.intake_process.specs.Fault.{is_refused, leaves_doubt}
use Rattle.intake_process.specs.Process.{Parts, HoldRegisterWithLog, IsLeftBy, KeepsBy, LeavesDatabase}

-- what an output has, and which pages were written into a folder, if that is known
pub record Outputs : Type 0 where
  pub text : Option (List ℕ)
  pub pages : Option (List File)

abbrev pub outputs : Option (List ℕ) → Option (List File) → Outputs
outputs text pages = record { text = text; pages = pages }

-- the log and the database file together hold the register of these requests in the version that the errand is for
pub record HoldFor {D : Type 0} (g : Ghosts D) (errand : Errand) (files : Files D) (old_style : ℕ)
    (requests : List Request) : Type 0 where
  pub db : Database
  pub register : IsRegisterFor errand old_style requests db
  pub held : HoldWithLog g files db

-- the same, and these are the moments of its requests
pub record HoldDatedFor {D : Type 0} (g : Ghosts D) (errand : Errand) (files : Files D) (old_style : ℕ)
    (requests : List Request) (moments : List (Option ℕ)) : Type 0 where
  pub db : Database
  pub register : IsRegisterFor errand old_style requests db
  pub received : AreMomentsFor errand requests moments db
  pub held : HoldWithLog g files db

-- the register of these requests, with these moments, lies there
abbrev pub LiesDatedFor : {D : Type 0} → Ghosts D → Errand → Option (Option (Files D)) → ℕ → List Request
    → List (Option ℕ) → Type 0
LiesDatedFor g errand lying old_style requests moments =
    (firsts requests ≡ requests) × Lie lying (λ files. HoldDatedFor g errand files old_style requests moments)

-- the register of these requests lies there
abbrev pub LiesFor : {D : Type 0} → Ghosts D → Errand → Option (Option (Files D)) → ℕ → List Request → Type 0
LiesFor g errand lying old_style requests =
    (firsts requests ≡ requests) × Lie lying (λ files. HoldFor g errand files old_style requests)

-- whether an errand came out so that it leaves doubt
abbrev pub is_unsure : {X : Type 0} → Bool → Result X Why → Bool
is_unsure was_taken (Ok done) = false
is_unsure was_taken (Err why) = leaves_doubt was_taken why

-- so it came out, or the register was not closed: what lies in the place may be what a crash leaves
abbrev pub is_doubtful : Visited → Bool
is_doubtful visited = is_unsure visited.was_taken visited.done || is_err visited.closed

-- ---- whatever lies there

module _ {D : Type 0} {g : Ghosts D} where
  -- after a refused errand the files are as they were given up; otherwise the connection is closed, or the error says
  -- why its last commit is not all in the database file
  abbrev pub IsLeftIn : Bool → Held (FileStore D g) → Files D → Result (Unit {0}) Error → Type 0
  IsLeftIn true conn files closed = IsGivenUp conn files × (closed ≡ Ok tt)
  IsLeftIn false conn files closed = IsLeftBy g conn files closed

  -- The database was not opened, and nothing was done; or the errand was done with the connection to it, and its files
  -- lie there again.
  abbrev pub GoesOn : Errand → Outputs → Outputs → Option (Option (Files D)) → Option (Option (Files D))
      → Result (Held (FileStore D g)) Unopened → Visited → Type 0
  GoesOn errand out out' between lying (Err it) visited =
      (visited.done ≡ Err (why.Files it.fault)) × (visited.was_taken ≡ it.was_taken) × (visited.closed ≡ Ok tt)
      × (lying ≡ between) × (out' ≡ out) × (visited.holding ≡ Nothing)
  GoesOn errand out out' between lying (Ok conn) visited =
      (left : Held (FileStore D g)) × RunsErrand over_files errand out.text out'.text conn left visited.done
      × FillsFolder over_files errand out.pages out'.pages conn left visited.done
      × ((files : Files D) × place.Leaves between lying files
      × IsLeftIn (is_refused visited.done) left files visited.closed)

-- What a visit does with what lies in a place, whatever that is.
pub record VisitsPlace {D : Type 0} (g : Ghosts D) (errand : Errand) (out out' : Outputs)
    (old new : Option (Option (Files D))) (visited : Visited) : Type 0 where
  pub opened : Result (Held (FileStore D g)) Unopened
  pub between : Option (Option (Files D))
  pub opens : OpensPlace g true old between opened
  pub goes : GoesOn errand out out' between new opened visited

-- ---- a register

-- What a visit does with a process that is closed. What is printed of a register of the version that the errand is for
-- is the text of its requests and their moments. Its pages are written if the errand is for them, and otherwise none.
pub record VisitsRegister {D : Type 0} {g : Ghosts D} (errand : Errand) (out out' : Outputs) (old new : Parts g)
    (visited : Visited) : Type 0 where
  pub told : IsHonest g → (old_style : ℕ) (requests : List Request) (moments : List (Option ℕ))
      → LiesDatedFor g errand old.lying old_style requests moments
      → Tells errand requests moments out.text out'.text visited.done
  pub filled : IsHonest g → (old_style : ℕ) (requests : List Request) → LiesFor g errand old.lying old_style requests
      → (meaning errand).fills ≡ true
      → OnOk visited.done (WritesSite requests out.pages out'.pages)
  pub unfilled : (meaning errand).fills ≡ false → out'.pages ≡ out.pages
  -- As long as the process is certain, the requests are kept as a register of this version, if the errand was not
  -- refused. If it was, they lie there as they lay, and so does any other database.
  pub kept : IsHonest g → new.is_certain ≡ true → is_refused visited.done ≡ false
      → (old_style : ℕ) (requests : List Request) → LiesFor g errand old.lying old_style requests
      → KeepsBy {g = g} None new.lying 0 old_style requests
  pub left : IsHonest g → new.is_certain ≡ true → is_refused visited.done ≡ true
      → LeavesDatabase g old.lying new.lying
  -- A register of this version is not migrated.
  pub current : IsHonest g → (meaning errand).is_for_earlier ≡ true → (old_style : ℕ) (requests : List Request)
      → Lie old.lying (λ files. HoldRegisterWithLog g files old_style requests) → is_refused visited.done ≡ true
  pub visits : VisitsPlace g errand out out' old.lying new.lying visited
  pub certain : new.is_certain ≡ true → old.is_certain ≡ true
  pub stays : is_doubtful visited ≡ false → new.is_certain ≡ old.is_certain
  pub doubtful : is_doubtful visited ≡ true → new.is_certain ≡ false
  pub calls : new.refused_calls ≡ old.refused_calls
  pub is_closed : new.intake ≡ None
