use Rattle.std.proofs.Common.{◌≡◌, ℕ, ◌<◌, get_or, None, true, vec_len}
use Rattle.connection_hall.specs.Deadlines.{Awaits, patience}
use Rattle.connection_hall.specs.Places.{since_of}
use Rattle.connection_hall.specs.Rounds.{KeepsTurns}
use Rattle.connection_hall.specs.Running.{KeepsAll, is_late_at, turns}
use Rattle.connection_hall.proofs.hall.Hall.call_late.Given as goal

abbrev pub invariant-loop-place : goal.invariant-loop-place
invariant-loop-place g l = record {
  noted : (i : ℕ) → i < l.place → Awaits l.self.deadlines (since_of (get_or l.self.places.items i None));
  late : (i : ℕ) → i < l.place → is_late_at l.fn.self (get_or l.fn.self.places.items i None) l.now ≡ true
      → turns l.self i ≡ true;
  all : l.place-end ≡ vec_len l.self.places;
  places : l.self.places ≡ l.fn.self.places;
  limit : patience l.self.deadlines ≡ patience l.fn.self.deadlines;
  round : KeepsTurns l.fn.self.round l.self.round;
  rest : KeepsAll l.fn.self l.self;
}
