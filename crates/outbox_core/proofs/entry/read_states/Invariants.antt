use Rattle.std.proofs.Common.{◌≡◌, map, take}
use Rattle.outbox_core.specs.Reading.{view_pair, state_told}
use Rattle.outbox_core.proofs.entry.read_states.Given as goal

abbrev pub invariant-loop-row : goal.invariant-loop-row
invariant-loop-row l = map view_pair l.states.items ≡ map state_told (take l.row-index l.rows)
