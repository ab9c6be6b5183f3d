-- What is to be answered; own rules.
use Rattle.std.specs.Prelude.{Option, Some, None}
use Rattle.http_messages.specs.Message.{Arrival, Read, Refused as RefusedArrival}
use Rattle.http_messages.specs.Request.{Request as Message}
use Rattle.http_connection.specs.Connection.{TellsNext}
use Rattle.http_connection.specs.declared.connection.Connection.{Connection}
use Rattle.http_connection.specs.declared.event.Event.{Event}
use Rattle.http_connection.specs.declared.event.Event.TheVariants.{Request as RequestEvent, Refused as RefusedEvent}
use Rattle.connection_hall.specs.declared.ready.Ready.{Ready}
use Rattle.connection_hall.specs.declared.ready.Ready.TheVariants.{Request, Refused}

-- the event of the machine that it is
abbrev pub event_of : Ready → Event
event_of Request = RequestEvent
event_of (Refused refusal) = RefusedEvent refusal

-- it is what comes next on the machine
abbrev pub StandsFirst : Connection → Ready → Type 0
StandsFirst machine ready = TellsNext machine (event_of ready)

-- the arrival that it is, with the request that the machine lends
abbrev pub arrival_of : Option Ready → Option Message → Option Arrival
arrival_of None lent = None
arrival_of (Some (Refused refusal)) lent = Some (RefusedArrival refusal)
arrival_of (Some Request) None = None
arrival_of (Some Request) (Some request) = Some (Read request)
