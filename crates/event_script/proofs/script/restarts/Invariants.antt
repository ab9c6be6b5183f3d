use Rattle.std.proofs.Common.{◌≡◌, map}
use Rattle.event_script.specs.Events.{view_event}
use Rattle.event_script.specs.Restarts.{restarts}
use Rattle.event_script.proofs.script.restarts.Given as goal

abbrev pub invariant-loop-before : goal.invariant-loop-before
invariant-loop-before l = map view_event l.events.items ≡ restarts l.before
