-- Restarts of all ends, behind the events of a script.
use Rattle.std.specs.Prelude.{ℕ, List, ◌∷◌, ◌++◌, length, map}
use Rattle.std.specs.List.{range_with_len}
use Rattle.filing_world.specs.World.{Event}
use Rattle.event_script.specs.Scripts.{Script}

-- a restart of the intake, and of each of so many outboxes
abbrev pub restarts : ℕ → List Event
restarts outboxes = Event.RestartServer ∷ map Event.RestartOutbox (range_with_len 1 outboxes)

-- the script with a restart of every end behind its events
abbrev pub restarted : Script → Script
restarted script = record script { events = script.events ++ restarts (length script.filers) }
