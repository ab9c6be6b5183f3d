-- The exit status of `intake`, and what a fault says of the register.
use Rattle.std.specs.Prelude.{ℕ, Option, Some, None, Result, Ok, Err}
use Rattle.database_places.specs.Verdicts.{verdict_of}
use Rattle.database_places.specs.declared.flaw.DatabaseFlaw.{DatabaseFlaw}
use Rattle.database_places.specs.declared.flaw.DatabaseFlaw.TheVariants as verdict
use Rattle.command_line.specs.declared.fault.CommandFault.TheVariants as command
use Rattle.command_line.specs.Status as command_line
use Rattle.register_tables.specs.declared.fault.CreateFault.TheVariants as create
use Rattle.register_tables.specs.declared.fault.OpenFault.{OpenFault}
use Rattle.register_tables.specs.declared.fault.OpenFault.TheVariants as opening
use Rattle.register_extracts.specs.declared.fault.Why.{Why}
use Rattle.register_extracts.specs.declared.fault.Why.TheVariants as why
use Rattle.intake_commands.specs.declared.fault.NotDone.{NotDone}
use Rattle.intake_commands.specs.declared.fault.NotDone.TheVariants as fault

-- ---- statuses

-- 1 if the database is no sound register, and otherwise 3
abbrev pub opening_status : OpenFault → ℕ
opening_status opening.NotOurs = 1
opening_status (opening.Damaged row) = 1
opening_status opening.Memory = 3
opening_status opening.Disk = 3

-- the status is 1 also if the database cannot become a register, or is another one, and 4 if a filing or a request is
-- missing
abbrev pub why_status : Why → ℕ
why_status (why.Files cause) = command_line.database_status cause
why_status (why.Open cause) = opening_status cause
why_status (why.Migrate cause) = opening_status cause
why_status why.Taken = 1
why_status (why.Create create.Taken) = 1
why_status (why.Another count) = 1
why_status (why.NoFiling number) = 4
why_status why.NoRequest = 4
why_status (why.TooFew kept) = 4
why_status other = 3

-- 2 if the command line is at fault, and 3 for memory, the disk, a folder and the network
abbrev pub fault_status : NotDone → ℕ
fault_status (fault.Command why) = command_line.status_of why
fault_status fault.NoInit = 2
fault_status fault.Limit = 2
fault_status fault.Against = 2
fault_status fault.Key = 2
fault_status fault.Socket = 2
fault_status (fault.InMemory why) = 3
fault_status (fault.Register name why holding) = why_status why
fault_status (fault.Connection why) = 3
fault_status (fault.Network address error) = 3
fault_status (fault.Page why) = 3

-- the status of a task, by its result
abbrev pub status_of : Result ℕ NotDone → ℕ
status_of (Ok status) = status
status_of (Err why) = fault_status why

-- ---- verdicts

abbrev pub opening_verdict : OpenFault → Option DatabaseFlaw
opening_verdict opening.NotOurs = Some verdict.NotOurs
opening_verdict (opening.Damaged row) = Some (verdict.Damaged row)
opening_verdict opening.Memory = None
opening_verdict opening.Disk = None

abbrev pub why_verdict : Why → Option DatabaseFlaw
why_verdict (why.Files cause) = verdict_of cause
why_verdict (why.Open cause) = opening_verdict cause
why_verdict (why.Migrate cause) = opening_verdict cause
why_verdict other = None

abbrev pub fault_verdict : NotDone → Option DatabaseFlaw
fault_verdict (fault.Register name why holding) = why_verdict why
fault_verdict (fault.Command (command.Database name why)) = verdict_of why
fault_verdict other = None
