-- What `outbox` does with its words, and with a task on the outbox of its file. `out` and `out'` are what the output
-- has before and after.
use Rattle.std.specs.Prelude.{◌≡◌, ◌⊎◌, ℕ, zero, suc, true, List, map, Option, Some, None, Result, Ok, Err}
use Rattle.sqlite_disk.specs.declared.Disk.{Ghosts}
use Rattle.sqlite_disk.specs.declared.Files.{Files}
use Rattle.clap.specs.Words.{Text, kind_of}
use Rattle.clap.specs.declared.error.Error.{Error}
use Rattle.command_line.specs.declared.fault.CommandFault.{CommandFault}
use Rattle.command_line.specs.Status.{IsRefusalStatus}
use Rattle.command_line.specs.Words.{IsRead, IsUnread}
use Rattle.database_places.specs.Accesses.{OpensBy}
use Rattle.finding_lines.specs.Linting.{LintsReports}
use Rattle.outbox_process.specs.Process.{Parts}
use Rattle.outbox_commands.specs.declared.fault.NotDone.{NotDone}
use Rattle.outbox_commands.specs.declared.network.PeerDial.{PeerDial}
use Rattle.outbox_commands.specs.declared.options.Asked.{Asked}
use Rattle.outbox_commands.specs.declared.options.Asked.TheVariants.{Outbox, Lint}
use Rattle.outbox_commands.specs.declared.options.Peer.{Peer}
use Rattle.outbox_commands.specs.declared.options.Task.{Task}
use Rattle.outbox_commands.specs.Networks.{traffic_of, IsNetworkTo, IsNoFolder}
use Rattle.outbox_commands.specs.Reading.{access_of}
use Rattle.outbox_commands.specs.Status.{status_of, ended_status}
use Rattle.outbox_commands.specs.Tasks.{Does}
use Rattle.outbox_commands.specs.Words.{Calls, IsAsked}

-- ---- a task on the outbox of a place

-- the process of an outbox that lies there, and is closed
abbrev pub closed : {D : Type 0} {g : Ghosts D} → Option (Option (Files D)) → Parts g
closed lying = record { outbox = None; lying = lying; is_certain = true }

-- a task that is done ends with 3 if receipts are missing, and otherwise with 0
abbrev pub ended_without : ℕ → Result (Unit {0}) NotDone → ℕ
ended_without lost (Err why) = status_of why
ended_without zero (Ok done) = 0
ended_without (suc lost) (Ok done) = 3

-- No receipt can be kept in the folder of the task's peer, and nothing was done; or the task was done to the outbox
-- that lies there, over the network of this peer.
abbrev pub PerformsOver : {D : Type 0} (g : Ghosts D) → Task → Option (Option (Files D)) → Option (List ℕ)
    → Option (List ℕ) → ℕ → Type 0
PerformsOver g task lying out out' status =
    (peer : Peer) × Calls task peer
    × (((why : NotDone) × IsNoFolder peer.receipts why × (status ≡ status_of why) × (out' ≡ out))
    ⊎ ((before : PeerDial) × IsNetworkTo peer before × (after : PeerDial) × (new : Parts g)
    × (done : Result (Unit {0}) NotDone)
    × Does g task (traffic_of before) (traffic_of after) out out' (closed lying) new done
    × (status ≡ ended_without after.lost_receipts done)))

-- ---- what the words ask for

-- The task was performed on the outbox of a file, which is opened for writing or for reading alone, by what the task
-- does to it; or the findings of the reports were printed; or nothing is asked for, and nothing was done.
abbrev pub PerformsAsked : {D R : Type 0} → Ghosts D → Ghosts R → Option Asked → Option (List ℕ) → Option (List ℕ) → ℕ
    → Type 0
PerformsAsked written read (Some (Outbox task wait)) out out' status =
    OpensBy (access_of task) (PerformsOver written task None out out' status)
    (PerformsOver read task None out out' status)
PerformsAsked written read (Some (Lint filer form files)) out out' status =
    (linted : Result ℕ CommandFault)
    × LintsReports form filer.now (map (λ file. file.now) files.items) out out' linted
    × (status ≡ ended_status linted)
PerformsAsked written read None out out' status = (status ≡ 2) × (out' ≡ out)

-- what the words ask for was performed; or `clap` does not take them, and the status says why
abbrev pub Performs : {D R : Type 0} → Ghosts D → Ghosts R → List Text → Option (List ℕ) → Option (List ℕ) → ℕ → Type 0
Performs written read words out out' status =
    ((asked : Option Asked) × IsRead IsAsked words asked × PerformsAsked written read asked out out' status)
    ⊎ ((error : Error) × IsUnread words error × IsRefusalStatus (kind_of error) status)
