use Rattle.std.proofs.Common.{◌≡◌, ℕ, ◌<◌, ◌≤◌, None}
use Rattle.connection_hall.specs.Running.{arrival_at}
use Rattle.connection_hall.proofs.hall.Hall.ready.Given as goal

abbrev pub invariant-loop-place : goal.invariant-loop-place
invariant-loop-place g l = (i : ℕ) → l.from ≤ i → i < l.place → arrival_at l.self i ≡ None
