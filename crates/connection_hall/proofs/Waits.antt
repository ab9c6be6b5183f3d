-- Of which bytes an arrival that waits was read.
use Rattle.std.proofs.Common.{◌≡◌, ℕ, Bool, false, List, Option, Some, None, IfSome, subst, get_or}
use Rattle.http_messages.specs.Message.{Arrival, Rest, ArrivalsThen}
use Rattle.http_messages.specs.Request.{Request as Message}
use Rattle.http_connection.specs.Connection.{is_over, ending_by, lent, Leaves}
use Rattle.connection_hall.specs.declared.hall.Hall.{Hall}
use Rattle.connection_hall.specs.declared.ready.Ready.{Ready}
use Rattle.connection_hall.specs.declared.ready.Ready.TheVariants.{Request, Refused}
use Rattle.connection_hall.specs.declared.served.Served.{Served}
use Rattle.connection_hall.specs.declared.stream.Stream.{Ghosts}
use Rattle.connection_hall.specs.Answers.{Answer, arrivals_on}
use Rattle.connection_hall.specs.Comings.{Traffic}
use Rattle.connection_hall.specs.Connections.{held_by, IsReady}
use Rattle.connection_hall.specs.Places.{arrival_in, number_in}
use Rattle.connection_hall.specs.Ready.{arrival_of}
use Rattle.connection_hall.specs.Running.{IsRunning, IsInPlace, arrival_at, turns}
use Rattle.connection_hall.specs.Waiting.{BeginsWith, WasRead, came_in, held_in}

begins_request : {S : Type 0} (c : Served S) (arrival : Arrival) (request : Message) (seen : Option Message)
    → seen ≡ Some request → arrival_of (Some Request) seen ≡ Some arrival → Arrival.Read request ≡ arrival
begins_request c arrival request None lends is = absurd (let e = lends in cc)
begins_request c arrival request (Some seen) lends is = let a = lends in let b = is in cc

begins_refused : (arrival seen : Arrival) → Some seen ≡ Some arrival → seen ≡ arrival
begins_refused arrival seen is = let e = is in cc

-- it begins what is held, and the connection is open
begins : {S : Type 0} (c : Served S) (arrival : Arrival) (ready : Option Ready)
    → arrival_of ready (lent c.machine) ≡ Some arrival → IfSome ready (IsReady c)
    → (is_over c.machine ≡ false) × BeginsWith (held_by c) arrival
begins c arrival None is h = absurd (let e = is in cc)
begins c arrival (Some Request) is h =
    let first = h.next.1 in (
      h.next.0,
      subst (λ (a : Arrival). BeginsWith (held_by c) a)
          (begins_request c arrival first.request (lent c.machine) first.lends is) (_, first.begins),
    )
begins c arrival (Some (Refused refusal)) is h = (
  h.next.0,
  subst (λ (a : Arrival). BeginsWith (held_by c) a)
      (begins_refused arrival (Arrival.Refused refusal) is) h.next.1,
)

pub record IsRead {S N : Type 0} (s : Ghosts S N) (answers : List Answer) (slot : Option (Served S)) (arrival : Arrival)
    : Type 0 where
  pub begins : BeginsWith (held_in slot) arrival
  pub came : IfSome (came_in s slot)
      (λ bytes. ArrivalsThen (Leaves (held_in slot)) bytes (arrivals_on (number_in slot) answers) (Rest false))

follows : (came : Option (List ℕ)) (bytes held : List ℕ) (arrivals : List Arrival) (over : Bool) → over ≡ false
    → IfSome came (λ known. known ≡ bytes) → ArrivalsThen (Leaves held) bytes arrivals (ending_by over)
    → IfSome came (λ known. ArrivalsThen (Leaves held) known arrivals (Rest false))
follows None bytes held arrivals over open' is splits = tt
follows (Some known) bytes held arrivals over open' is splits = rw is
    (subst (λ (b : Bool). ArrivalsThen (Leaves held) bytes arrivals (ending_by b)) open' splits)

read_in : {S N : Type 0} (s : Ghosts S N) (answers : List Answer) (called : ℕ → Bool) (hall : Hall S) (place : ℕ)
    (slot : Option (Served S)) (arrival : Arrival) → arrival_in slot ≡ Some arrival
    → IfSome slot (IsInPlace s answers called hall place) → IsRead s answers slot arrival
read_in s answers called hall place None arrival is h = absurd (let e = is in cc)
read_in s answers called hall place (Some c) arrival is h =
    let told = h.hand.served in
    let first = begins c arrival c.ready is told.ready in
    record {
      begins = first.1;
      came = follows (s.came c.stream) told.bytes (held_by c) (arrivals_on c.number answers) (is_over c.machine) first.0
          told.came_is told.read.splits;
    }

pub was_read : {S N : Type 0} (s : Ghosts S N) (answers : List Answer) (hall : Hall S) (traffic : Option (Traffic S))
    (place : ℕ) (arrival : Arrival) → IsRunning s answers hall traffic → arrival_at hall place ≡ Some arrival
    → WasRead s answers hall place arrival
was_read s answers hall traffic place arrival running waits =
    let slot = get_or hall.places.items place None in
    let read = read_in s answers (turns hall) hall place slot arrival waits (running.in_place place) in
    record { begins = read.begins; came = read.came }
