-- The status of a program that shows nothing.
use Rattle.std.specs.Prelude.{ℕ, Result, Ok, Err}
use Rattle.command_line.specs.Status.{status_of as command_status}
use Rattle.event_script.specs.declared.fault.ScriptFault.{ScriptFault}
use Rattle.event_script.specs.declared.fault.ScriptFault.TheVariants as script
use Rattle.schedule.specs.declared.fault.Fault.{Fault as WorldFault}
use Rattle.schedule.specs.declared.fault.Fault.TheVariants as world
use Rattle.drill_commands.specs.declared.fault.NotDone.{NotDone}
use Rattle.drill_commands.specs.declared.fault.NotDone.TheVariants as drill

-- 2 for a line that says nothing, and 3 if memory ran out
abbrev pub script_status : ScriptFault → ℕ
script_status (script.Unreadable line) = 2
script_status script.Memory = 3

-- 1 for an event that names nothing, and otherwise 3
abbrev pub world_status : WorldFault → ℕ
world_status (world.NoSuch event) = 1
world_status world.Memory = 3
world_status (world.Store event) = 3
world_status (world.Reopen event) = 3

-- 3 for a script that cannot be read, and for a database that does not give its rows
abbrev pub status_of : NotDone → ℕ
status_of (drill.Command fault) = command_status fault
status_of (drill.Read fault) = 3
status_of drill.TooLong = 3
status_of drill.NotText = 3
status_of (drill.Script fault) = script_status fault
status_of (drill.World fault) = world_status fault
status_of (drill.Register fault) = 3
status_of (drill.Outbox fault) = 3
status_of (drill.Key fault) = 3

-- the status of what was done, or why it was not
abbrev pub status_by : Result ℕ NotDone → ℕ
status_by (Ok status) = status
status_by (Err why) = status_of why
