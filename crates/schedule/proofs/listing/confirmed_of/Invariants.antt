use Rattle.std.proofs.Common.{◌≡◌, map, filter_map, take}
use Rattle.filing_world.specs.Headline.{number_in}
use Rattle.schedule.specs.Listed.{view_listed}
use Rattle.schedule.proofs.listing.confirmed_of.Given as goal

abbrev pub invariant-loop-entry : goal.invariant-loop-entry
invariant-loop-entry l = l.list.items ≡ filter_map number_in (map view_listed (take l.entry-index l.states))
