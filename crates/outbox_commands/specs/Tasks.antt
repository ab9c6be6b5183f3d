-- What each task of `outbox` does: what becomes of the process of its outbox, what is sent and printed, and the status.
-- `net` and `net'` are the traffic of the network before and after, and `out` and `out'` what the output has.
use Rattle.std.specs.Prelude.{◌≡◌, ◌⊎◌, ℕ, Bool, true, false, List, codes, Option, Some, None, Result, Ok, Err}
use Rattle.std.specs.Prelude.{MatchBool}
use Rattle.std.specs.Borrow.{Bor}
use Rattle.std.specs.Io.KnownBytes.{Appends}
use Rattle.sqlite_disk.specs.declared.Disk.{Ghosts}
use Rattle.sqlite.specs.declared.error.Error.{Error}
use Rattle.key_string.specs.Filer.{is_filer}
use Rattle.outbox_tables.specs.Entries.{Contents}
use Rattle.database_places.specs.Places.{IsHonest}
use Rattle.database_places.specs.declared.flaw.DatabaseFlaw.{DatabaseFlaw}
use Rattle.database_places.specs.Verdicts.{verdict_text}
use Rattle.outbox_process.specs.Dials.{Traffic}
use Rattle.outbox_process.specs.declared.beginning.Beginning.TheVariants as beginning
use Rattle.outbox_process.specs.declared.errand.Errand.TheVariants as errand
use Rattle.outbox_process.specs.declared.fault.NotOpened.{NotOpened}
use Rattle.outbox_process.specs.declared.fault.Why.{Why}
use Rattle.outbox_process.specs.declared.fault.Why.TheVariants as why
use Rattle.outbox_process.specs.Process.{Parts, Keeps, IsOfCurrent, OpensProcess, ClosesProcess}
use Rattle.outbox_commands.specs.declared.fault.NotDone.{NotDone}
use Rattle.outbox_commands.specs.declared.options.Task.{Task}
use Rattle.outbox_commands.specs.declared.options.Task.TheVariants.{Init, Put, Migrate, Send, Ask, Status, Show, Body}
use Rattle.outbox_commands.specs.Puts.{PutsReports}
use Rattle.outbox_commands.specs.Status.{why_status, status_by}
use Rattle.outbox_commands.specs.Visits.{IsToldAs, IsRefused, VisitsOutbox, why_verdict}

-- ---- init

-- The text is no filer code, and nothing was done; or an outbox of this filer was made, and closed; or it was refused.
abbrev pub MakesOutbox : {D : Type 0} (g : Ghosts D) → Bor (List ℕ) → Parts g → Parts g → ℕ → Type 0
MakesOutbox g filer old new status =
    ((is_filer filer.now ≡ false) × (new ≡ old) × (status ≡ 2))
    ⊎ (((made : Parts g) × (closed : Result (Unit {0}) Error) × OpensProcess g (beginning.Made filer) old made (Ok tt)
    × ClosesProcess g made new closed × (status ≡ 0))
    ⊎ IsRefused g (beginning.Made filer) old new status)

-- ---- migrate

abbrev pub migrated_line : List ℕ
migrated_line = codes "migrated\n"

abbrev pub current_line : List ℕ
current_line = codes "has this version already\n"

-- the outbox was refused since it has this version already
abbrev pub is_current : Why → Bool
is_current why.IsCurrent = true
is_current other = false

-- a text was printed, and the status is `done`; or the output or memory failed
abbrev pub IsPrinted : Option (List ℕ) → Option (List ℕ) → List ℕ → ℕ → ℕ → Type 0
IsPrinted out out' text done status = ((status ≡ done) × Appends out out' text) ⊎ (status ≡ 3)

-- the verdict on the database was printed, if the refusal says something of it
abbrev pub IsJudged : Option DatabaseFlaw → Option (List ℕ) → Option (List ℕ) → ℕ → ℕ → Type 0
IsJudged (Some verdict) out out' done status = IsPrinted out out' (verdict_text verdict (codes "an outbox")) done status
IsJudged None out out' done status = (status ≡ done) × (out' ≡ out)

-- The cause is that of an outbox of this version, if one is kept there. Nothing is committed to it then.
abbrev pub IfCurrent : {D : Type 0} {g : Ghosts D} → Parts g → Why → Type 0
IfCurrent {D} {g} old told =
    IsHonest g → old.is_certain ≡ true → (it : Contents) → Keeps old it → IsOfCurrent told

-- An outbox of the version before was upgraded to this one, that was printed, and the outbox was closed; or it was
-- refused: it has this version already, and that was printed, or the verdict on it was.
abbrev pub MigratesOutbox : {D : Type 0} (g : Ghosts D) → Option (List ℕ) → Option (List ℕ) → Parts g → Parts g → ℕ
    → Type 0
MigratesOutbox g out out' old new status =
    ((migrated : Parts g) × (closed : Result (Unit {0}) Error) × OpensProcess g beginning.Migrated old migrated (Ok tt)
    × ClosesProcess g migrated new closed
    × IsPrinted out out' migrated_line 0 status)
    ⊎ ((refusal : NotOpened) × (told : Why) × OpensProcess g beginning.Migrated old new (Err refusal)
    × IsToldAs refusal.why told × IfCurrent old told
    × MatchBool (is_current told) (IsPrinted out out' current_line 0 status)
    (IsJudged (why_verdict told) out out' (why_status told) status))

-- ---- all tasks

abbrev pub Does : {D X : Type 0} (g : Ghosts D) → Task → Traffic → Traffic → Option (List ℕ) → Option (List ℕ) → Parts g
    → Parts g → Result X NotDone → Type 0
Does g (Init database filer) net net' out out' old new result =
    MakesOutbox g filer old new (status_by result) × (net' ≡ net) × (out' ≡ out)
Does g (Put database files key target strict) net net' out out' old new result =
    PutsReports g strict files.items key target net net' out out' old new result
Does g (Migrate database) net net' out out' old new result =
    MigratesOutbox g out out' old new (status_by result) × (net' ≡ net)
Does g (Send database peer which strict) net net' out out' old new result =
    VisitsOutbox g strict (errand.Send which) net net' out out' old new (status_by result)
Does g (Ask database peer id form) net net' out out' old new result =
    VisitsOutbox g false (errand.Ask id form) net net' out out' old new (status_by result)
Does g (Status database) net net' out out' old new result =
    VisitsOutbox g false errand.ShowStates net net' out out' old new (status_by result)
Does g (Show database None) net net' out out' old new result =
    VisitsOutbox g false errand.ShowEach net net' out out' old new (status_by result)
Does g (Show database (Some id)) net net' out out' old new result =
    VisitsOutbox g false (errand.ShowEntry id) net net' out out' old new (status_by result)
Does g (Body database id) net net' out out' old new result =
    VisitsOutbox g false (errand.ShowBody id) net net' out out' old new (status_by result)
