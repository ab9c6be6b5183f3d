use Rattle.std.proofs.Common.{◌≡◌, List}
use Rattle.connection_hall.specs.Answers.{Answer}
use Rattle.connection_hall.specs.Rounds.{left}
use Rattle.gateway_rounds.specs.Ports.{port, Runs}
use Rattle.gateway_rounds.proofs.port.Port.take_turns.Given as goal

abbrev pub invariant-turns : goal.invariant-turns
invariant-turns g l = record {
  running : (answers : List Answer) → Runs g.T.Stream answers (port g.K.Sockets.traffic l.fn.self)
      → Runs g.T.Stream answers (port g.K.Sockets.traffic l.self);
  asked : l.self.asked ≡ l.fn.self.asked;
  next : l.self.next ≡ l.fn.self.next;
  bounds : l.self.hall.bounds ≡ l.fn.self.hall.bounds;
}

abbrev pub decreases-turns : goal.decreases-turns
decreases-turns g l = left l.self.hall.round
