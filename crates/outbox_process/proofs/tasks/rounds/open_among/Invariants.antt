use Rattle.std.proofs.Common.{◌≡◌, take, map, filter}
use Rattle.outbox_process.specs.Rounds.{is_open_pair}
use Rattle.outbox_process.proofs.tasks.rounds.open_among.Given as goal

abbrev pub invariant-loop-id : goal.invariant-loop-id
invariant-loop-id l = l.ids.items ≡ map (λ told. told.0) (filter is_open_pair (take l.id-index l.states))
