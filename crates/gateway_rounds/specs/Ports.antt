-- What contracts see of a port: its connections, how often it was asked for those that may go on, and at which place
-- the next round begins; own rules.
use Rattle.std.specs.Prelude.{◌≡◌, ℕ, Bool, List, Option, length}
use Rattle.connection_hall.specs.declared.hall.Hall.{Hall}
use Rattle.connection_hall.specs.declared.stream.Stream.{Ghosts}
use Rattle.connection_hall.specs.Answers.{Answer}
use Rattle.connection_hall.specs.Comings.{Traffic}
use Rattle.connection_hall.specs.Running.{IsRunning, is_shut as is_hall_shut}
use Rattle.gateway_rounds.specs.declared.port.Port.{Port as Declared}

pub record Port (S : Type 0) : Type 0 where
  pub hall : Hall S
  pub traffic : Option (Traffic S)
  pub asked : ℕ
  pub next : ℕ

-- the port, by what is known of its sockets
abbrev pub port : {T K : Type 0} → (K → Option (Traffic T)) → Declared T K → Port T
port traffic p = record { hall = p.hall; traffic = traffic p.sockets; asked = length p.asked.items; next = p.next }

-- the connections of a port after these answers
abbrev pub Runs : {S N : Type 0} → Ghosts S N → List Answer → Port S → Type 0
Runs s answers port = IsRunning s answers port.hall port.traffic

-- What answering changes of no port: how often it was asked, and its bounds.
pub record KeepsPort {S : Type 0} (old new : Port S) : Type 0 where
  pub asked : new.asked ≡ old.asked
  pub bounds : new.hall.bounds ≡ old.hall.bounds

-- whether no connection comes any more, and none is there
abbrev pub is_shut : {S : Type 0} → Port S → Bool
is_shut port = is_hall_shut port.hall
