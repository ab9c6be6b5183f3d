use Rattle.std.proofs.Common.{◌≡◌, ◌++◌, map, take}
use Rattle.schedule.specs.OutboxListed.{listed}
use Rattle.schedule.specs.Listed.{view_listed}
use Rattle.schedule.proofs.listing.append.Given as goal

abbrev pub invariant-loop-entry : goal.invariant-loop-entry
invariant-loop-entry l =
    map view_listed l.list.items ≡ map view_listed l.fn.list.items
    ++ map (listed l.outbox) (take l.entry-index l.states)
