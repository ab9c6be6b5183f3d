use Rattle.std.proofs.Common.{◌≡◌, ◌+◌, true, Some}
use Rattle.gateway_rounds.specs.Ports.{port, is_shut}
use Rattle.database_places.specs.Places.{IsHonest}
use Rattle.intake_process.specs.Process.{parts, IsAwake, StaysUp}
use Rattle.intake_process.specs.History.{Passes}
use Rattle.intake_process.specs.Turns.{AnswersSome}
use Rattle.intake_process.proofs.serving.serve_port.Given as goal

abbrev pub invariant-loop-taken : goal.invariant-loop-taken
invariant-loop-taken g l = record {
  answers : IsHonest g.D.Disk → AnswersSome g.T.Stream l.limit (port g.K.Sockets.traffic l.fn.port)
      (port g.K.Sockets.traffic l.port) (parts g.P.Place.lying l.fn.process)
      (parts g.P.Place.lying l.process);
  shut : is_shut (port g.K.Sockets.traffic l.fn.port) ≡ true → (l.taken ≡ 0)
      × (is_shut (port g.K.Sockets.traffic l.port) ≡ true);
  closed : IsAwake l.fn.process.intake → IsAwake l.process.intake;
  stays : StaysUp (parts g.P.Place.lying l.fn.process) (parts g.P.Place.lying l.process);
  passes : Passes g.T.Stream l.limit (port g.K.Sockets.traffic l.fn.port) (port g.K.Sockets.traffic l.port)
      (parts g.P.Place.lying l.fn.process) (parts g.P.Place.lying l.process)
      (g.O.Observer.answers l.fn.observer) (g.O.Observer.answers l.observer) (Some l.taken);
  asked : (port g.K.Sockets.traffic l.port).asked ≡ (port g.K.Sockets.traffic l.fn.port).asked + l.taken;
  bounds : l.port.hall.bounds ≡ l.fn.port.hall.bounds;
}
