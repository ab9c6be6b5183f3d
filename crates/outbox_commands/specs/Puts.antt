-- Reports of files are put into an outbox, one after another. `net` is the traffic of the network, on which nothing
-- goes then, and `out` and `out'` are what the output has before and after.
use Rattle.std.specs.Prelude.{◌≡◌, ◌⊎◌, ◌||◌, ◌&&◌, ℕ, Bool, true, false, List, [], ◌∷◌, map, length, leb, is_none}
use Rattle.std.specs.Prelude.{is_some, Option, Some, None, Result, Ok, Err}
use Rattle.std.specs.Borrow.{Bor}
use Rattle.std.specs.List.{All}
use Rattle.sqlite_disk.specs.declared.Disk.{Ghosts}
use Rattle.sqlite.specs.declared.error.Error.{Error}
use Rattle.key_string.specs.Key.{IsTextFault}
use Rattle.xbrl_report.specs.Findings.{tree}
use Rattle.command_line.specs.declared.bytes.ReadFault.{ReadFault}
use Rattle.command_line.specs.declared.fault.CommandFault.TheVariants as command
use Rattle.database_places.specs.Places.{IsHonest}
use Rattle.outbox_process.specs.Dials.{Traffic}
use Rattle.outbox_process.specs.declared.fault.Why.{Why}
use Rattle.outbox_process.specs.declared.beginning.Beginning.TheVariants.{Found}
use Rattle.outbox_process.specs.declared.errand.Done.{Done}
use Rattle.outbox_process.specs.declared.errand.Errand.{Errand}
use Rattle.outbox_process.specs.declared.errand.Errand.TheVariants as errand
use Rattle.outbox_process.specs.declared.target.Target.{Target}
use Rattle.outbox_process.specs.Process.{Parts, Leaves, OpensProcess, PerformsErrand, ClosesProcess}
use Rattle.outbox_commands.specs.declared.fault.NotDone.{NotDone}
use Rattle.outbox_commands.specs.declared.fault.NotDone.TheVariants as fault
use Rattle.outbox_commands.specs.declared.putting.ReportFile.{ReportFile}
use Rattle.outbox_commands.specs.Status.{status_by, why_status}
use Rattle.outbox_commands.specs.Visits.{IsRefused}

-- ---- the reports are read

-- the key that was given, or one at random
abbrev pub IsKeyFor : Option (Bor (List ℕ)) → List ℕ → Type 0
IsKeyFor (Some text) key = key ≡ text.now
IsKeyFor None key = Unit {0}

-- why there is no key: the text that was given is no key; or no text was given, and the system or memory failed
abbrev pub IsNoKeyFor : Option (Bor (List ℕ)) → NotDone → Type 0
IsNoKeyFor (Some text) (fault.Key why) = IsTextFault text.now why
IsNoKeyFor None (fault.Random error) = Unit {0}
IsNoKeyFor None (fault.Command why) = why ≡ command.Memory
IsNoKeyFor _ _ = ⊥

-- there is no such key, the report could not be read, or memory failed
abbrev pub IsNotRead : Option (Bor (List ℕ)) → NotDone → Type 0
IsNotRead text (fault.Command why) =
    (why ≡ command.Memory) ⊎ ((file : Bor (List ℕ)) × (unread : ReadFault) × (why ≡ command.Report file unread))
IsNotRead text why = IsNoKeyFor text why

-- it was read in the file of this name, and has such a key
abbrev pub IsReadFor : Option (Bor (List ℕ)) → Bor (List ℕ) → ReportFile → Type 0
IsReadFor text file report = (report.file ≡ file) × IsKeyFor text report.key

-- one was read in each of these files, in order, and each has such a key
abbrev pub AreReadFor : Option (Bor (List ℕ)) → List (Bor (List ℕ)) → List ReportFile → Type 0
AreReadFor text files reports =
    (map (λ report. report.file) reports ≡ files) × All (λ report. IsKeyFor text report.key) reports

-- whether a body can be read as JSON; a register refuses one that can't
abbrev pub is_json : List ℕ → Bool
is_json body = is_some (tree body)

-- if it is strict, the body can be read as JSON
abbrev pub IsFit : Bool → List ℕ → Type 0
IsFit strict body = strict ≡ true → is_json body ≡ true

-- the same of each of these reports
abbrev pub AreFit : Bool → List ReportFile → Type 0
AreFit strict reports = All (λ report. IsFit strict report.body.items) reports

-- it is strict, and a report is no JSON; or memory failed
abbrev pub IsUnfit : Bool → NotDone → Type 0
IsUnfit strict why =
    ((strict ≡ true) × ((name : Bor (List ℕ)) × (why ≡ fault.NotJson name))) ⊎ (why ≡ fault.Command command.Memory)

-- a report was not read, or is not fit
abbrev pub IsNotTaken : Bool → Option (Bor (List ℕ)) → NotDone → Type 0
IsNotTaken strict text why = IsNotRead text why ⊎ IsUnfit strict why

-- ---- they are put in

-- a report is put in under its key, to replace the filing that was named, or none
abbrev pub put_of : Target → ReportFile → Errand
put_of target report = errand.Put report.key target report.body

-- whether it was put in, and its id printed
abbrev pub ended_as : Result Done Why → Result (Unit {0}) Why
ended_as (Ok done) = Ok tt
ended_as (Err why) = Err why

-- A report was put in, or that failed; and entries may have been read again.
pub record PutsOne {D : Type 0} {g : Ghosts D} (put : Errand) (net : Traffic) (out out' : Option (List ℕ))
    (old new : Parts g) (ended : Result (Unit {0}) Why) : Type 0 where
  pub done : Parts g
  pub came : Result Done Why
  pub performs : PerformsErrand put net net out out' old done came
  pub looks : IsHonest g → Leaves done new
  pub ends : ended ≡ ended_as came

-- Each was put in, one after another; or the first ones were, the next one failed, and nothing was done with those
-- after it.
abbrev pub PutsInTurn : {D : Type 0} {g : Ghosts D} → List Errand → Traffic → Option (List ℕ) → Option (List ℕ)
    → Parts g → Parts g → Result (Unit {0}) Why → Type 0
PutsInTurn [] net out out' old new ended = (out' ≡ out) × (new ≡ old) × (ended ≡ Ok tt)
PutsInTurn {D} {g} (put ∷ puts) net out out' old new ended =
    ((mid : Option (List ℕ)) × (between : Parts g) × PutsOne put net out mid old between (Ok tt)
    × PutsInTurn puts net mid out' between new ended)
    ⊎ ((why : Why) × PutsOne put net out out' old new (Err why) × (ended ≡ Err why))

-- 0 if each was put in, and otherwise by why the one was not
abbrev pub turns_status : Result (Unit {0}) Why → ℕ
turns_status (Ok done) = 0
turns_status (Err why) = why_status why

abbrev pub EndsTurns : {D : Type 0} {g : Ghosts D} → List Errand → Traffic → Option (List ℕ) → Option (List ℕ)
    → Parts g → Parts g → ℕ → Type 0
EndsTurns puts net out out' old new status =
    (ended : Result (Unit {0}) Why) × PutsInTurn puts net out out' old new ended
    × (status ≡ turns_status ended)

-- The outbox that lay there was opened, these were put in, one after another, and it was closed.
pub record PutsThem {D : Type 0} (g : Ghosts D) (puts : List Errand) (net : Traffic) (out out' : Option (List ℕ))
    (old new : Parts g) (status : ℕ) : Type 0 where
  pub opened : Parts g
  pub opens : OpensProcess g Found old opened (Ok tt)
  pub done : Parts g
  pub turns : EndsTurns puts net out out' opened done status
  pub closed : Result (Unit {0}) Error
  pub closes : ClosesProcess g done new closed

-- ---- the command

-- whether a key and a filing to be replaced, if they are given, are for this many reports: for one at most
abbrev pub is_for_one : ℕ → Option (Bor (List ℕ)) → Target → Bool
is_for_one count text target = leb count 1 || (is_none text && is_none target.number)

-- nothing was done
abbrev pub IsUntouched : {D : Type 0} {g : Ghosts D} → Traffic → Traffic → Option (List ℕ) → Option (List ℕ) → Parts g
    → Parts g → Type 0
IsUntouched net net' out out' old new = (new ≡ old) × (net' ≡ net) × (out' ≡ out)

-- A key or a filing was given for several reports, and nothing was done. Otherwise all reports were read, and then put
-- in, or the outbox was refused; or one was not read or, if it is strict, is no JSON, and nothing was done.
abbrev pub PutsReports : {D X : Type 0} (g : Ghosts D) → Bool → List (Bor (List ℕ)) → Option (Bor (List ℕ)) → Target
    → Traffic → Traffic → Option (List ℕ) → Option (List ℕ) → Parts g → Parts g → Result X NotDone → Type 0
PutsReports g strict files text target net net' out out' old new result =
    ((is_for_one (length files) text target ≡ false) × (result ≡ Err fault.ForOne)
    × IsUntouched net net' out out' old new)
    ⊎ ((is_for_one (length files) text target ≡ true)
    × (((reports : List ReportFile) × AreReadFor text files reports × AreFit strict reports × (net' ≡ net)
    × (PutsThem g (map (put_of target) reports) net out out' old new (status_by result)
    ⊎ (IsRefused g Found old new (status_by result) × (out' ≡ out))))
    ⊎ ((why : NotDone) × (result ≡ Err why) × IsNotTaken strict text why
    × IsUntouched net net' out out' old new)))
