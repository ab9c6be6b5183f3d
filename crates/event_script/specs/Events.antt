-- Events as the world knows them, without the memory that holds them.
use Rattle.std.specs.Prelude.{List, All}
use Rattle.http_messages.specs.Posting.{IsTarget}
use Rattle.filing_model.specs.Stopping.{Crash}
use Rattle.filing_world.specs.World.{Event}
use Rattle.event_script.specs.declared.event.Crash.{Crash as Told}
use Rattle.event_script.specs.declared.event.Crash.TheVariants as told
use Rattle.event_script.specs.declared.event.Event.{Event as Listed}
use Rattle.event_script.specs.declared.event.Event.TheVariants as listed

-- where an end stops
abbrev pub view_crash : Told → Crash
view_crash told.No = Crash.No
view_crash (told.Before arrival) = Crash.Before arrival
view_crash (told.After arrival) = Crash.After arrival

-- what happens
abbrev pub view_event : Listed → Event
view_event (listed.Put outbox key target body) = Event.Put outbox key target body.items
view_event (listed.Send outbox entry) = Event.Send outbox entry
view_event (listed.Stranger bytes) = Event.Stranger bytes.items
view_event (listed.Deliver item bytes crash) = Event.Deliver item bytes (view_crash crash)
view_event (listed.Hand output bytes crash) = Event.Hand output bytes (view_crash crash)
view_event listed.RestartServer = Event.RestartServer
view_event (listed.RestartOutbox outbox) = Event.RestartOutbox outbox

-- what is to be replaced has a number that a filing may have
abbrev pub HasTarget : Event → Type 0
HasTarget (Event.Put outbox key target body) = IsTarget target
HasTarget event = Unit {0}

abbrev pub HaveTargets : List Event → Type 0
HaveTargets = All HasTarget
