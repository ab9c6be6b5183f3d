use Rattle.std.proofs.Common.{◌≡◌, ◌≤◌, ℕ, length, get_or, None}
use Rattle.connection_hall.proofs.hall.count_used.Given as goal

abbrev pub invariant-loop-used : goal.invariant-loop-used
invariant-loop-used g l = record {
  within : l.used ≤ length l.places;
  free : (i : ℕ) → l.used ≤ i → get_or l.places i None ≡ None;
}

abbrev pub decreases-loop-used : goal.decreases-loop-used
decreases-loop-used g l = l.used
