use Rattle.std.proofs.Common.{◌≡◌, ℕ, ◌<◌, ◌≤◌, ◌-◌, ◌*◌, None, get_or, true, vec_len}
use Rattle.std.specs.Duration.{as_nanos}
use Rattle.connection_hall.specs.Places.{has_passed_in}
use Rattle.connection_hall.proofs.hall.Hall.until_term.Given as goal

abbrev pub invariant-loop-place : goal.invariant-loop-place
invariant-loop-place g l = record {
  terms : (i late : ℕ) → i < l.place → has_passed_in (get_or l.self.places.items i None) late ≡ true
      → as_nanos l.wait ≤ (late - l.now) * 1000000;
  all : l.place-end ≡ vec_len l.self.places;
  within : as_nanos l.wait ≤ as_nanos l.fn.wait;
}
