-- What waits for an answer, and the bytes of which it was read; own rules.
use Rattle.std.specs.Prelude.{ℕ, false, List, [], Option, Some, None, IfSome, slice_index_or}
use Rattle.http_messages.specs.Message.{Arrival, Read, Refused, Rest, ArrivalsThen, BeginsRequest, IsRefused}
use Rattle.http_connection.specs.Connection.{Leaves}
use Rattle.connection_hall.specs.declared.hall.Hall.{Hall}
use Rattle.connection_hall.specs.declared.served.Served.{Served}
use Rattle.connection_hall.specs.declared.stream.Stream.{Ghosts}
use Rattle.connection_hall.specs.Answers.{Answer, arrivals_on}
use Rattle.connection_hall.specs.Connections.{held_by}
use Rattle.connection_hall.specs.Running.{number_at}

-- what came on the connection in a place, if that is known, and what of it is held
abbrev pub came_in : {S N : Type 0} → Ghosts S N → Option (Served S) → Option (List ℕ)
came_in s None = None
came_in s (Some c) = s.came c.stream

abbrev pub held_in : {S : Type 0} → Option (Served S) → List ℕ
held_in None = []
held_in (Some c) = held_by c

abbrev pub came_at : {S N : Type 0} → Ghosts S N → Hall S → ℕ → Option (List ℕ)
came_at s hall place = came_in s (slice_index_or hall.places.items place None)

abbrev pub held_at : {S : Type 0} → Hall S → ℕ → List ℕ
held_at hall place = held_in (slice_index_or hall.places.items place None)

-- the bytes begin with this arrival
abbrev pub BeginsWith : List ℕ → Arrival → Type 0
BeginsWith bytes (Read request) = (n : ℕ) × BeginsRequest bytes request n
BeginsWith bytes (Refused refusal) = IsRefused bytes refusal

-- An arrival that waits in a place was read of its bytes: what is held begins with it, and is what came on that
-- connection behind the arrivals that were answered.
pub record WasRead {S N : Type 0} (s : Ghosts S N) (answers : List Answer) (hall : Hall S) (place : ℕ)
    (arrival : Arrival) : Type 0 where
  pub begins : BeginsWith (held_at hall place) arrival
  pub came : IfSome (came_at s hall place)
      (λ bytes. ArrivalsThen (Leaves (held_at hall place)) bytes (arrivals_on (number_at hall place) answers)
      (Rest false))
