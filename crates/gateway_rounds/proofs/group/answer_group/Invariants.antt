use Rattle.std.proofs.Common.{◌≡◌}
use Rattle.gateway_rounds.specs.Groups.{FiledUpTo}
use Rattle.gateway_rounds.specs.Ports.{port}
use Rattle.gateway_rounds.proofs.group.answer_group.Given as goal

abbrev pub invariant-loop-at : goal.invariant-loop-at
invariant-loop-at g l = record {
  filed : FiledUpTo g.T.Stream g.S.Store l.at (port g.K.Sockets.traffic l.fn.port) (port g.K.Sockets.traffic l.port)
      l.fn.port.group.items l.fn.intake l.intake;
  group : l.port.group ≡ l.fn.port.group;
}
