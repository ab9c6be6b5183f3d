use Rattle.std.proofs.Common.{◌≡◌}
use Rattle.gateway_rounds.specs.Groups.{ToldUpTo}
use Rattle.gateway_rounds.specs.Ports.{port}
use Rattle.gateway_rounds.proofs.group.tell_group.Given as goal

abbrev pub invariant-loop-at : goal.invariant-loop-at
invariant-loop-at g l = record {
  told : ToldUpTo g.T.Stream l.at (port g.K.Sockets.traffic l.fn.port) (port g.K.Sockets.traffic l.port)
      l.fn.port.group.items l.all;
  group : l.port.group ≡ l.fn.port.group;
}
