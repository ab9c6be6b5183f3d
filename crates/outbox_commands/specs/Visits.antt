-- An outbox is opened, an errand is done on it, and it is closed.
use Rattle.std.specs.Prelude.{◌≡◌, ◌⊎◌, ℕ, Bool, true, false, List, Option, Some, None, Result, Ok, Err}
use Rattle.sqlite_disk.specs.declared.Disk.{Ghosts}
use Rattle.sqlite.specs.declared.error.Error.{Error}
use Rattle.command_line.specs.declared.fault.DatabaseFault.{DatabaseFault}
use Rattle.database_places.specs.declared.flaw.DatabaseFlaw.{DatabaseFlaw}
use Rattle.database_places.specs.declared.flaw.DatabaseFlaw.TheVariants as verdict
use Rattle.database_places.specs.Verdicts.{verdict_of, IsRefusalOf}
use Rattle.outbox_tables.specs.declared.fault.OutboxFault.{OutboxFault}
use Rattle.outbox_tables.specs.declared.fault.OutboxFault.TheVariants as made
use Rattle.outbox_process.specs.Dials.{Traffic}
use Rattle.outbox_process.specs.declared.beginning.Beginning.{Beginning}
use Rattle.outbox_process.specs.declared.beginning.Beginning.TheVariants.{Found}
use Rattle.outbox_process.specs.declared.errand.Done.{Done}
use Rattle.outbox_process.specs.declared.errand.Errand.{Errand}
use Rattle.outbox_process.specs.declared.fault.NotOpened.{NotOpened}
use Rattle.outbox_process.specs.declared.fault.Why.{Why}
use Rattle.outbox_process.specs.declared.fault.Why.TheVariants as why
use Rattle.outbox_process.specs.Process.{Parts, OpensProcess, PerformsErrand, ClosesProcess}
use Rattle.outbox_commands.specs.Status.{why_status, done_status}

-- ---- it is opened

abbrev pub are_files : Why → Bool
are_files (why.Files fault) = true
are_files _ = false

-- a refusal is reported as it is, or, if it depends on the pages of the file, as the first page says
abbrev pub IsToldAs : Why → Why → Type 0
IsToldAs cause told =
    ((fault shown : DatabaseFault) × (cause ≡ why.Files fault) × (told ≡ why.Files shown) × IsRefusalOf fault shown)
    ⊎ ((are_files cause ≡ false) × (told ≡ cause))

abbrev pub IsTold : Result (Unit {0}) NotOpened → Result (Unit {0}) NotOpened → Type 0
IsTold (Ok done) result = result ≡ Ok tt
IsTold (Err refusal) result = (told : NotOpened) × (result ≡ Err told) × IsToldAs refusal.why told.why

-- the process was opened, or the refusal is reported
abbrev pub OpensTold : {D : Type 0} (g : Ghosts D) → Beginning → Parts g → Parts g → Result (Unit {0}) NotOpened
    → Type 0
OpensTold g beginning old new result =
    (came : Result (Unit {0}) NotOpened) × OpensProcess g beginning old new came × IsTold came result

-- ---- an errand

-- The outbox that lay there was opened, the errand was done on it, and it was closed. The status says whether all was
-- done; if it is strict, also whether each entry that was sent is filed.
pub record DoesOn {D : Type 0} (g : Ghosts D) (strict : Bool) (errand : Errand) (net net' : Traffic)
    (out out' : Option (List ℕ)) (old new : Parts g) (status : ℕ) : Type 0 where
  pub opened : Parts g
  pub opens : OpensProcess g Found old opened (Ok tt)
  pub done : Parts g
  pub came : Result Done Why
  pub performs : PerformsErrand errand net net' out out' opened done came
  pub closed : Result (Unit {0}) Error
  pub closes : ClosesProcess g done new closed
  pub says : status ≡ done_status strict came

-- The outbox was not opened, the status says why, and nothing was done.
pub record IsRefused {D : Type 0} (g : Ghosts D) (beginning : Beginning) (old new : Parts g) (status : ℕ) : Type 0 where
  pub refusal : NotOpened
  pub opens : OpensProcess g beginning old new (Err refusal)
  pub says : status ≡ why_status refusal.why

-- the errand was done, or the outbox was refused
abbrev pub VisitsOutbox : {D : Type 0} (g : Ghosts D) → Bool → Errand → Traffic → Traffic → Option (List ℕ)
    → Option (List ℕ) → Parts g → Parts g → ℕ → Type 0
VisitsOutbox g strict errand net net' out out' old new status =
    DoesOn g strict errand net net' out out' old new status
    ⊎ (IsRefused g Found old new status × (net' ≡ net) × (out' ≡ out))

-- ---- the verdict on a database that is not migrated

abbrev pub outbox_verdict : OutboxFault → Option DatabaseFlaw
outbox_verdict made.BadFiler = None
outbox_verdict made.Taken = None
outbox_verdict made.NotOurs = Some verdict.NotOurs
outbox_verdict (made.Damaged row) = Some (verdict.Damaged row)
outbox_verdict made.Memory = None
outbox_verdict made.Disk = None

-- the verdict on the database: no outbox that can be migrated, or a damaged one
abbrev pub why_verdict : Why → Option DatabaseFlaw
why_verdict (why.Files fault) = verdict_of fault
why_verdict (why.Create fault) = outbox_verdict fault
why_verdict (why.Open fault) = outbox_verdict fault
why_verdict why.IsCurrent = Some verdict.NotOurs
why_verdict (why.Migrate fault) = outbox_verdict fault
why_verdict _ = None
