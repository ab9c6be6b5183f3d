use Rattle.std.proofs.Common.{◌≡◌, ◌⊎◌, ◌≤◌, ℕ, List, [], length, vec_len}
use Rattle.http_messages.specs.Message.{interim}
use Rattle.connection_hall.specs.Answers.{Answer}
use Rattle.connection_hall.specs.Connections.{IsServed, HoldsWithin, Grows, KeepsStanding, MovesOn}
use Rattle.connection_hall.proofs.served.Served.go_on.Given as goal

abbrev pub invariant-loop-count : goal.invariant-loop-count
invariant-loop-count g l = record {
  served : (answers : List Answer) → IsServed g.S.Stream answers l.fn.self → IsServed g.S.Stream answers l.self;
  moves : (answers : List Answer) → IsServed g.S.Stream answers l.fn.self → l.fn.self.owed.items ≡ []
      → ((l._count ≡ 0) × (l.self ≡ l.fn.self)) ⊎ MovesOn l.fn.self l.self;
  grows : Grows l.fn.self l.self;
  same : KeepsStanding g.S.Stream l.fn.self l.self;
  held : (read : ℕ) → length l.fn.room ≤ read → HoldsWithin read l.fn.self → HoldsWithin read l.self;
  owed : (most : ℕ) → length interim ≤ most → vec_len l.fn.self.owed ≤ most → vec_len l.self.owed ≤ most;
}
