-- Runs of `intake serve` that are killed on a connection, among what programs do; own rules.
use Rattle.std.specs.Prelude.{◌≡◌, ◌≤◌, ℕ, List, take, Some}
use Rattle.sqlite_disk.specs.declared.Disk.{Ghosts}
use Rattle.sqlite_disk.specs.declared.Files.{Files}
use Rattle.http_messages.specs.declared.refusal.ConnFault.TheVariants.{Memory}
use Rattle.filing_model.specs.declared.served.Ended.TheVariants.{Fault}
use Rattle.filing_model.specs.declared.served.Mark.{Mark}
use Rattle.filing_world.specs.World.{Sent, numbered}
use Rattle.gateway_server.specs.Connections.{Connection}
use Rattle.programs.specs.Deliveries.{Delivery}
use Rattle.programs.specs.Happenings.{Situation, Happening, Makes}
use Rattle.intake_process.specs.Process.{HoldRegisterWithLog}

-- The first bytes of an item come on a connection, to an intake that keeps at most this many keys.
pub record ComesOn (limit : ℕ) (old : Situation) (delivery : Delivery) : Type 0 where
  pub from : Sent
  pub here : numbered old.sent delivery.item ≡ Some from
  pub keys : ℕ
  pub few : keys ≤ limit

abbrev pub read_on : {limit : ℕ} {old : Situation} {delivery : Delivery} → ComesOn limit old delivery → List ℕ
read_on {delivery = delivery} on = take delivery.given on.from.bytes

-- a connection that was cut off, as one for which memory ran out
abbrev pub cut_off : List ℕ → List Mark → List ℕ → Connection
cut_off read marks written =
    record { read = read; output = record { marks = marks; ended = Fault Memory; bytes = written } }

-- This happened, and the files hold the register of what is kept then.
pub record HappenedIn {D : Type 0} (g : Ghosts D) (files : Files D) (limit : ℕ) (old : Situation)
    (happening : Happening) : Type 0 where
  pub new : Situation
  pub makes : Makes limit old happening new
  pub held : HoldRegisterWithLog g files 0 new.requests
