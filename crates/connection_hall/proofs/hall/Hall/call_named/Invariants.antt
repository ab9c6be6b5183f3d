use Rattle.std.proofs.Common.{◌≡◌, ℕ, ◌<◌, List, Option, None, IsSome, get_or, true}
use Rattle.connection_hall.specs.Answers.{Answer}
use Rattle.connection_hall.specs.Comings.{Traffic}
use Rattle.connection_hall.specs.Rounds.{KeepsTurns}
use Rattle.connection_hall.specs.Running.{IsRunning, KeepsAll, turns}
use Rattle.connection_hall.proofs.hall.Hall.call_named.Given as goal

abbrev pub invariant-loop-place : goal.invariant-loop-place
invariant-loop-place g l = record {
  running : (answers : List Answer) (traffic : Option (Traffic g.row.S.Denot))
      → IsRunning g.S.Stream answers l.fn.self traffic → IsRunning g.S.Stream answers l.self traffic;
  named : (k : ℕ) → k < l.place-index → IsSome (get_or l.self.places.items (get_or l.named k 0) None)
      → turns l.self (get_or l.named k 0) ≡ true;
  places : l.self.places ≡ l.fn.self.places;
  round : KeepsTurns l.fn.self.round l.self.round;
  rest : KeepsAll l.fn.self l.self;
}
