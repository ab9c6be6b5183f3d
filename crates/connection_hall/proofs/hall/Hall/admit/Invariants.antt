use Rattle.std.proofs.Common.{◌≡◌, ◌≤◌, ℕ, List, vec_len}
use Rattle.connection_hall.specs.Answers.{Answer}
use Rattle.connection_hall.specs.Running.{IsRunning, AreCalled, AreLateCalled, DelaysNone}
use Rattle.connection_hall.proofs.hall.Hall.admit.Given as goal

abbrev pub invariant-loop-place : goal.invariant-loop-place
invariant-loop-place g l = record {
  running : (answers : List Answer) → IsRunning g.S.Stream answers l.fn.self (g.P.Sockets.traffic l.fn.sockets)
      → IsRunning g.S.Stream answers l.self (g.P.Sockets.traffic l.sockets);
  next : l.place ≤ vec_len l.self.places;
  named : g.P.Sockets.named l.sockets ≡ g.P.Sockets.named l.fn.sockets;
  clock : g.P.Sockets.clock l.sockets ≡ g.P.Sockets.clock l.fn.sockets;
  called : (named : List ℕ) → AreCalled named l.fn.self → AreCalled named l.self;
  late : (now : ℕ) → AreLateCalled l.fn.self now → AreLateCalled l.self now;
  delays : DelaysNone l.fn.self l.self;
  bounds : l.self.bounds ≡ l.fn.self.bounds;
}
