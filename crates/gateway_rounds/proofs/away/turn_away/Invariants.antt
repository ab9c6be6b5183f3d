use Rattle.std.proofs.Common.{◌-◌}
use Rattle.gateway_rounds.specs.AwayTurns.{AnswersAwayUpTo}
use Rattle.gateway_rounds.specs.Ports.{port}
use Rattle.gateway_rounds.proofs.away.turn_away.Given as goal

abbrev pub invariant-places : goal.invariant-places
invariant-places g l =
    AnswersAwayUpTo g.T.Stream l.from (port g.K.Sockets.traffic l.fn.port) (port g.K.Sockets.traffic l.port)

abbrev pub decreases-places : goal.decreases-places
decreases-places g l = 18446744073709551616 - l.from
