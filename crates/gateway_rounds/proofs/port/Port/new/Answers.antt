use Rattle.gateway_rounds.proofs.port.Port.new.Goals as goal

pub returns-clause-running : goal.returns-clause-running
returns-clause-running g c = λ empty. c.in_ok-new.ensures.running (g.K.Sockets.traffic c.args.sockets) empty
