-- What `intake` does with its words, and with a task on the register of its file. `out` and `out'` are what the output
-- has before and after.
use Rattle.std.specs.Prelude.{◌≡◌, ◌⊎◌, ℕ, true, nat_eq, List, [], Option, Some, None, Result, Ok, Err, MatchBool}
use Rattle.sqlite_disk.specs.declared.Disk.{Ghosts}
use Rattle.sqlite_disk.specs.declared.Files.{Files}
use Rattle.clap.specs.Words.{Text, kind_of}
use Rattle.clap.specs.declared.error.Error.{Error}
use Rattle.command_line.specs.Status.{IsRefusalStatus}
use Rattle.command_line.specs.Words.{IsRead, IsUnread}
use Rattle.database_places.specs.Accesses.{OpensBy}
use Rattle.http_wire.specs.Wire.{Wire}
use Rattle.connection_hall.specs.declared.stream.Stream.{Ghosts as Streams}
use Rattle.gateway_rounds.specs.Ports.{Port, Runs, is_shut}
use Rattle.intake_commands.specs.Bounds.{bounds_of}
use Rattle.intake_process.specs.Process.{Parts}
use Rattle.intake_commands.specs.declared.fault.NotDone.{NotDone}
use Rattle.intake_commands.specs.declared.fault.NotDone.TheVariants as fault
use Rattle.intake_commands.specs.declared.options.Asked.{Asked}
use Rattle.intake_commands.specs.declared.options.Serving.{Serving}
use Rattle.intake_commands.specs.declared.options.Task.{Task}
use Rattle.intake_commands.specs.declared.options.Task.TheVariants.{Serve}
use Rattle.intake_commands.specs.Reading.{access_of}
use Rattle.intake_commands.specs.Status.{fault_status}
use Rattle.intake_commands.specs.Tasks.{Performs, means}
use Rattle.intake_commands.specs.Words.{IsAsked, asks_for_init}

-- ---- a task on the register of a place

-- the process of a register that lies there, and is closed
abbrev pub closed : {D : Type 0} {g : Ghosts D} → Option (Option (Files D)) → Parts g
closed lying = record { intake = None; lying = lying; is_certain = true; refused_calls = 0 }

-- The task was performed on the register that lies there, over this port. The system alone knows what comes and goes on
-- the connection of the standard streams, and what a folder has.
pub record PerformsOver {D S N : Type 0} (g : Ghosts D) (s : Streams S N) (task : Task)
    (lying : Option (Option (Files D))) (port port' : Option (Port S)) (out out' : Option (List ℕ)) (status : ℕ)
    : Type 0 where
  pub wire : Wire
  pub wire' : Wire
  pub new : Parts g
  pub performs : Performs s task (means wire out None port (closed lying)) (means wire' out' None port' new) status

-- ---- a task on the register of a file

-- A port on which nothing came yet, and which was not asked, or none for want of memory. It is shut only if no
-- connection is to come.
abbrev pub IsFresh : {S N : Type 0} → Streams S N → Serving → Option (Port S) → Type 0
IsFresh s serving None = Unit {0}
IsFresh s serving (Some port) =
    Runs s [] port × (port.asked ≡ 0) × (is_shut port ≡ nat_eq serving.connections 0)
    × (port.hall.bounds ≡ bounds_of serving)

-- the task was performed on the register of a file, which is opened for writing or for reading alone, by what the task
-- does to it; one that serves, over a port of the system
abbrev pub PerformsTask : {D R S N : Type 0} → Ghosts D → Ghosts R → Streams S N → Task → Option (List ℕ)
    → Option (List ℕ) → ℕ → Type 0
PerformsTask {S = S} written read s (Serve serving) out out' status =
    (port : Option (Port S)) × (port' : Option (Port S)) × IsFresh s serving port
    × PerformsOver written s (Serve serving) None port port' out out' status
PerformsTask written read s other out out' status =
    OpensBy (access_of other) (PerformsOver written s other None None None out out' status)
    (PerformsOver read s other None None None out out' status)

-- ---- what the words ask for

-- the task was performed; or nothing is asked for, and the status says why
abbrev pub PerformsAsked : {D R S N : Type 0} → Ghosts D → Ghosts R → Streams S N → Result Asked NotDone
    → Option (List ℕ) → Option (List ℕ) → ℕ → Type 0
PerformsAsked written read s (Ok asked) out out' status = PerformsTask written read s asked.task out out' status
PerformsAsked written read s (Err why) out out' status = (status ≡ fault_status why) × (out' ≡ out)

-- what the words ask for was performed; or `clap` does not take them, and the status says why; or they ask for `init`,
-- which is refused, and nothing is done then
abbrev pub PerformsAll : {D R S N : Type 0} → Ghosts D → Ghosts R → Streams S N → List Text → Option (List ℕ)
    → Option (List ℕ) → ℕ → Type 0
PerformsAll written read s words out out' status =
    MatchBool (asks_for_init words) ((status ≡ fault_status fault.NoInit) × (out' ≡ out))
    (((asked : Result Asked NotDone) × IsRead IsAsked words asked × PerformsAsked written read s asked out out' status)
    ⊎ ((error : Error) × IsUnread words error × IsRefusalStatus (kind_of error) status))
