use Rattle.std.proofs.Common.{◌≡◌, length, map}
use Rattle.event_script.specs.Events.{view_event, HaveTargets}
use Rattle.event_script.specs.Text.{lines_of}
use Rattle.event_script.specs.Scripts.{events_from}
use Rattle.event_script.proofs.Reading.{after_events}
use Rattle.event_script.proofs.read.read_events.Given as goal

abbrev pub invariant-loop-line : goal.invariant-loop-line
invariant-loop-line l =
    (events_from l.fn.text.number (lines_of l.fn.text.rest.now)
    ≡ after_events (map view_event l.events.items) (events_from l.behind.number (lines_of l.behind.rest.now)))
    × HaveTargets (map view_event l.events.items)

abbrev pub decreases-loop-line : goal.decreases-loop-line
decreases-loop-line l = length l.behind.rest.now
