use Rattle.std.proofs.Common.{◌≤◌, ◌-◌}
use Rattle.gateway_rounds.specs.Groups.{IsBehind, IsRound, SortsUpTo}
use Rattle.gateway_rounds.specs.Ports.{port}
use Rattle.gateway_rounds.proofs.at_once.answer_at_once.Given as goal

abbrev pub invariant-on : goal.invariant-on
invariant-on g l = record {
  low : l.fn.port.next ≤ l.from;
  sorts : SortsUpTo g.T.Stream g.S.Store l.fn.port.next (IsBehind l.fn.port.next l.from)
      (port g.K.Sockets.traffic l.fn.port) (port g.K.Sockets.traffic l.port) l.port.group.items l.left l.fn.intake
      l.intake;
}

abbrev pub decreases-on : goal.decreases-on
decreases-on g l = 18446744073709551616 - l.from

abbrev pub invariant-round : goal.invariant-round
invariant-round g l =
    SortsUpTo g.T.Stream g.S.Store l.fn.port.next (IsRound l.fn.port.next l.upto) (port g.K.Sockets.traffic l.fn.port)
    (port g.K.Sockets.traffic l.port) l.port.group.items l.left l.fn.intake l.intake

abbrev pub decreases-round : goal.decreases-round
decreases-round g l = 18446744073709551616 - l.upto
