use Rattle.std.proofs.Common.{◌≡◌, None, false, map, take}
use Rattle.event_script.specs.Events.{view_event}
use Rattle.filing_world.specs.Headline.{start}
use Rattle.filing_world.specs.Step.{Run}
use Rattle.schedule.proofs.events.run.Given as goal

abbrev pub invariant-loop-event : goal.invariant-loop-event
invariant-loop-event g l = record {
  run : Run (start (map (λ f. f.now) l.fn.filers) l.fn.limit) (map view_event (take l.event-index l.events))
      l.world.world;
  events : l.world.events ≡ l.event-index;
  fine : l.world.fault ≡ None;
  there : l.world.taken ≡ false;
}
