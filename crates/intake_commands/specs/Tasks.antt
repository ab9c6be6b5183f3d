-- What `intake` does with a task. This says of each word of the command line what is printed, what is kept, and the
-- status.
use Rattle.std.specs.Prelude.{◌≡◌, ◌⊎◌, ◌≤◌, ◌<◌, ◌^◌, ◌-◌, ℕ, Bool, true, false, not, List, codes, Option, Some}
use Rattle.std.specs.Prelude.{None, Ok, if◌then◌else◌}
use Rattle.std.specs.Prelude.{Result, Err, MatchBool, map}
use Rattle.std.specs.Borrow.{Bor}
use Rattle.std.specs.Option.{option_map_or}
use Rattle.std.specs.Io.KnownBytes.{Appends}
use Rattle.sqlite_disk.specs.declared.Disk.{Ghosts}
use Rattle.key_string.specs.Filer.{is_filer}
use Rattle.http_wire.specs.Wire.{Wire}
use Rattle.filing_model.specs.declared.served.Ended.{Ended}
use Rattle.filing_model.specs.declared.served.Ended.TheVariants as ended
use Rattle.connection_hall.specs.declared.stream.Stream.{Ghosts as Streams}
use Rattle.gateway_rounds.specs.Ports.{Port}
use Rattle.command_line.specs.declared.fault.CommandFault.{CommandFault}
use Rattle.command_line.specs.declared.fault.CommandFault.TheVariants as command
use Rattle.finding_lines.specs.Linting.{LintsReports}
use Rattle.database_places.specs.Verdicts.{verdict_text}
use Rattle.database_places.specs.declared.flaw.DatabaseFlaw.{DatabaseFlaw}
use Rattle.register_tables.specs.declared.fault.OpenFault.TheVariants as register
use Rattle.database_places.specs.declared.holding.Holding.{Holding}
use Rattle.register_extracts.specs.declared.fault.Why.{Why}
use Rattle.register_extracts.specs.declared.fault.Why.TheVariants as why
use Rattle.register_pages.specs.Pages.{File}
use Rattle.intake_process.specs.Tasks.{ServesAlone}
use Rattle.intake_process.specs.declared.tasks.errand.Errand.{Errand}
use Rattle.intake_process.specs.declared.tasks.errand.Errand.TheVariants as asked
use Rattle.intake_process.specs.Errands.{meaning}
use Rattle.intake_commands.specs.declared.options.Serving.{Serving}
use Rattle.intake_commands.specs.declared.options.Task.{Task}
use Rattle.intake_commands.specs.declared.options.Task.TheVariants as task
use Rattle.intake_process.specs.Process.{Parts}
use Rattle.intake_process.specs.Turns.{ServesRegister}
use Rattle.intake_process.specs.Visits.{Outputs, VisitsRegister, outputs}
use Rattle.intake_process.specs.declared.fault.Refusal.{Refusal}
use Rattle.intake_process.specs.declared.serving.ServingFault.{ServingFault}
use Rattle.intake_process.specs.declared.serving.ServingFault.TheVariants as refused
use Rattle.intake_process.specs.declared.visiting.Visited.{Visited}
use Rattle.intake_commands.specs.declared.fault.NotDone.{NotDone}
use Rattle.intake_commands.specs.declared.fault.NotDone.TheVariants as fault
use Rattle.intake_commands.specs.Status.{status_of, fault_verdict}
use Rattle.system_sockets.specs.declared.address.Address.{Address}
use Rattle.intake_commands.specs.ReportedFault.{IsErrandTold, IsTold}

-- What contracts see of what a task works with, as far as it is known: the connection on standard input and output,
-- what else the output has, which pages the folder has, the port, if there is one, and the process of the register.
pub record Means {D : Type 0} (g : Ghosts D) (S : Type 0) : Type 0 where
  pub wire : Wire
  pub out : Option (List ℕ)
  pub pages : Option (List File)
  pub port : Option (Port S)
  pub process : Parts g

-- these
abbrev pub means : {D S : Type 0} {g : Ghosts D} → Wire → Option (List ℕ) → Option (List File) → Option (Port S)
    → Parts g → Means g S
means wire out pages port process = record { wire = wire; out = out; pages = pages; port = port; process = process }

-- ---- run: one connection is served on a register in memory

-- the connection did not end by a fault
abbrev pub IsOver : Ended → Type 0
IsOver ended.Closed = Unit {0}
IsOver ended.InputEnded = Unit {0}
IsOver (ended.Fault why) = ⊥

abbrev pub Runs : ℕ → Wire → Wire → Result ℕ NotDone → Type 0
Runs limit from to (Ok status) = (status ≡ 0) × (ended : Ended) × IsOver ended × ServesAlone limit from to ended
Runs limit from to (Err (fault.Connection why)) = ServesAlone limit from to (ended.Fault why)
Runs limit from to (Err (fault.InMemory why)) = to ≡ from
Runs limit from to (Err fault.Limit) = (2 ^ 62 < limit) × (to ≡ from)
Runs limit from to (Err other) = ⊥

-- ---- serve: connections of a port are served on the register of a file

-- the status is 0 if the port was served; otherwise a fault is reported, by why it was not
abbrev pub IsServingTold : Serving → Result ℕ ServingFault → Result ℕ NotDone → Type 0
IsServingTold task (Ok taken) result = result ≡ Ok 0
IsServingTold task (Err (refused.Register it)) result =
    (told : NotDone) × IsTold task.database it.why it.holding told × (result ≡ Err told)
IsServingTold task (Err (refused.Port error)) result = result ≡ Err (fault.Network task.address error)

-- this fault says that connections cannot come in at this address
abbrev pub IsAddressRefused : Address → Result ℕ NotDone → Type 0
IsAddressRefused address (Err (fault.Network named error)) = named ≡ address
IsAddressRefused address other = ⊥

-- the port of a new register is not to be had, and nothing is made
pub record IsWithoutPort {D S : Type 0} {g : Ghosts D} (task : Serving) (port port' : Port S) (old new : Parts g)
    (result : Result ℕ NotDone) : Type 0 where
  pub new_one : task.new ≡ true
  pub same : port' ≡ port
  pub kept : new ≡ old
  pub told : IsAddressRefused task.address result

-- how often the port is asked at most, unless it is shut before: the largest number of 64 bits
abbrev pub most_asked : ℕ
most_asked = 2 ^ 64 - 1

-- the port is served with the task's limit until it is shut, on a register that is new or not
abbrev pub ServesPort : {D S N : Type 0} {g : Ghosts D} → Streams S N → Serving → Port S → Port S → Parts g → Parts g
    → Result ℕ NotDone → Type 0
ServesPort s task port port' old new result =
    ((2 ^ 62 < task.limit) × (port' ≡ port) × (new ≡ old) × (result ≡ Err fault.Limit))
    ⊎ (IsWithoutPort task port port' old new result
    ⊎ ((task.limit ≤ 2 ^ 62) × (served : Result ℕ ServingFault)
    × ServesRegister s (not task.new) task.limit most_asked port port' None None old new served
    × IsServingTold task served result))

-- so is the port that there is; without memory for one nothing is done
abbrev pub Serves : {D S N : Type 0} {g : Ghosts D} → Streams S N → Serving → Option (Port S) → Option (Port S)
    → Parts g
    → Parts g → Result ℕ NotDone → Type 0
Serves s task None port' old new result =
    (port' ≡ None) × (new ≡ old) × (result ≡ Err (fault.Command command.Memory))
Serves {S = S} s task (Some port) port' old new result =
    (after : Port S) × (port' ≡ Some after) × ServesPort s task port after old new result

-- ---- list, show, check, migrate, export, pages and digest: the register of a file is visited

-- whether the filer's code of an errand, if it has one, is the code of a filer
abbrev pub is_wanted : Errand → Bool
is_wanted errand = option_map_or is_filer (meaning errand).filer true

-- the verdict that is printed, beside the text of a fault on standard error, if the errand judges the register
abbrev pub shown_verdict : Errand → NotDone → Option DatabaseFlaw
shown_verdict errand why = if (meaning errand).judges then fault_verdict why else None

-- the fault is the result, unless there is a verdict that cannot be printed
abbrev pub EndsWith : Option DatabaseFlaw → NotDone → Option (List ℕ) → Option (List ℕ) → Result ℕ NotDone → Type 0
EndsWith None told out out' result = (result ≡ Err told) × (out' ≡ out)
EndsWith (Some verdict) told out out' result =
    ((result ≡ Err told) × Appends out out' (verdict_text verdict (codes "a register")))
    ⊎ ((result ≡ Err (fault.Command command.Output)) ⊎ ((result ≡ Err (fault.Command command.Memory)) × (out' ≡ out)))

-- a fault is reported, by why the errand is not done
abbrev pub IsFaultTold : Bor (List ℕ) → Errand → Refusal → Option (List ℕ) → Option (List ℕ) → Result ℕ NotDone
    → Type 0
IsFaultTold name errand it out out' result =
    (told : NotDone) × IsErrandTold name it.why it.holding told
    × EndsWith (shown_verdict errand told) told out out' result

-- ---- migrate: a register that has this version already

-- the database was not migrated, since it is no register of an earlier version
abbrev pub is_not_earlier : Why → Bool
is_not_earlier (why.Migrate register.NotOurs) = true
is_not_earlier other = false

-- why it is no register of this version either, as its check found it
abbrev pub is_not_current : Why → Bool
is_not_current (why.Open register.NotOurs) = true
is_not_current other = false

abbrev pub refusal_of : Refusal → Refusal → Refusal
refusal_of not_earlier checked = if is_not_current checked.why then not_earlier else checked

abbrev pub current_line : List ℕ
current_line = codes "has this version already\n"

-- that is printed, and the status is 0, unless the output failed
abbrev pub IsCurrentShown : Option (List ℕ) → Option (List ℕ) → Result ℕ NotDone → Type 0
IsCurrentShown out out' result =
    ((result ≡ Ok 0) × Appends out out' current_line) ⊎ (result ≡ Err (fault.Command command.Output))

-- if the check found a sound register, that is printed; otherwise a fault is reported
abbrev pub IsCurrentTold : Bor (List ℕ) → Refusal → Result (Unit {0}) Why → Holding → Option (List ℕ)
    → Option (List ℕ) → Result ℕ NotDone → Type 0
IsCurrentTold name not_earlier (Ok done) holding out out' result = IsCurrentShown out out' result
IsCurrentTold name not_earlier (Err why) holding out out' result =
    IsFaultTold name asked.Migrate (refusal_of not_earlier (record { why = why; holding = holding })) out out' result

-- The register is checked, which writes nothing to it, and what the check prints is not shown.
abbrev pub VisitsCurrent : {D : Type 0} {g : Ghosts D} → Bor (List ℕ) → Refusal → Outputs → Outputs → Parts g
    → Parts g → Result ℕ NotDone → Type 0
VisitsCurrent name not_earlier out out' old new result =
    (unshown : Option (List ℕ)) × (unshown' : Option (List ℕ)) × (visited : Visited)
    × VisitsRegister (asked.Check None) (outputs unshown out.pages) (outputs unshown' out'.pages) old new visited
    × IsCurrentTold name not_earlier visited.done visited.holding out.text out'.text result

-- ---- what a visit says

-- The status is 0 if the errand is done. A register that was to be migrated and is none of an earlier version is
-- checked; otherwise a fault is reported, by why the errand is not done.
abbrev pub IsVisitTold : {D : Type 0} {g : Ghosts D} → Bor (List ℕ) → Errand → Result (Unit {0}) Why → Holding → Outputs
    → Outputs → Parts g → Parts g → Result ℕ NotDone → Type 0
IsVisitTold name errand (Ok done) holding out out' old new result = (result ≡ Ok 0) × (out' ≡ out) × (new ≡ old)
IsVisitTold name errand (Err why) holding out out' old new result =
    let refusal : Refusal = record { why = why; holding = holding } in
    MatchBool (is_not_earlier why) (VisitsCurrent name refusal out out' old new result)
    (IsFaultTold name errand refusal out.text out'.text result × (out'.pages ≡ out.pages) × (new ≡ old))

abbrev pub Visits : {D : Type 0} {g : Ghosts D} → Bor (List ℕ) → Errand → Outputs → Outputs → Parts g → Parts g
    → Result ℕ NotDone → Type 0
Visits {D} {g} name errand out out' old new result =
    (between : Outputs) × (mid : Parts g) × (visited : Visited) × VisitsRegister errand out between old mid visited
    × IsVisitTold name errand visited.done visited.holding between out' mid new result

-- ---- a task

-- the fault that a code is no filer's is reported, and nothing is done
abbrev pub IsNoFiler : {D S : Type 0} {g : Ghosts D} → Means g S → Means g S → Result ℕ NotDone → Type 0
IsNoFiler old new result = (new ≡ old) × (result ≡ Err (fault.Command command.Filer))

-- a fault of the command is reported as it is
abbrev pub as_command : Result ℕ CommandFault → Result ℕ NotDone
as_command (Ok status) = Ok status
as_command (Err why) = Err (fault.Command why)

-- what each task does; nothing changes but what is named
abbrev pub Does : {D S N : Type 0} {g : Ghosts D} → Streams S N → Task → Means g S → Means g S → Result ℕ NotDone
    → Type 0
Does s (task.Run limit) old new result = (new ≡ record old { wire = new.wire }) × Runs limit old.wire new.wire result
Does s (task.Serve serving) old new result =
    (new ≡ record old { port = new.port; process = new.process })
    × Serves s serving old.port new.port old.process new.process result
Does s (task.Visit name errand) old new result =
    MatchBool (is_wanted errand) ((new ≡ record old { out = new.out; pages = new.pages; process = new.process })
    × Visits name errand (outputs old.out old.pages) (outputs new.out new.pages) old.process new.process result)
    (IsNoFiler old new result)
Does s (task.Lint filer form files) old new result =
    (new ≡ record old { out = new.out }) × (linted : Result ℕ CommandFault)
    × LintsReports form filer.now (map (λ file. file.now) files.items) old.out new.out linted
    × (result ≡ as_command linted)

-- What performing a task does, and which status it answers.
abbrev pub Performs : {D S N : Type 0} {g : Ghosts D} → Streams S N → Task → Means g S → Means g S → ℕ → Type 0
Performs s task old new status =
    (result : Result ℕ NotDone) × Does s task old new result × (status ≡ status_of result)
