use Rattle.std.proofs.Common.{sym, subst, ap}
use Rattle.gateway_rounds.specs.Ports.{port}
use Rattle.intake_process.specs.Process.{parts}
use Rattle.intake_process.specs.History.{said_of}
use Rattle.intake_process.specs.Observing.{Notes}
use Rattle.intake_process.proofs.Keeping.{awake}
use Rattle.intake_process.proofs.Turns.{one, between}
use Rattle.intake_process.proofs.Up as up
use Rattle.intake_process.proofs.History as history
use Rattle.intake_process.proofs.serving.answer_waiting.Goals as goal

pub returns-clause-answers : goal.returns-clause-answers
returns-clause-answers g c = λ honest.
    let from = port g.K.Sockets.traffic c.args.port.now in
    let to = port g.K.Sockets.traffic c.answer_port-by.new.port in
    let old = parts g.P.Place.lying c.args.process.now in
    let ready = parts g.P.Place.lying c.open_again-refusal.new.process in
    let last = parts g.P.Place.lying c.answer_port-by.new.self in
    let new = parts g.P.Place.lying c.went.new.process in
    let stays =
    up.went g.T.Stream from to ready last new c.answer_port-by.result c.answer_port-by.ensures
    (λ other. ap (parts g.P.Place.lying) (c.went.ensures.others other)) c.went.ensures.calls in
    between g.T.Stream c.args.limit from to old ready last new
    (λ u. up.until ready last new c.went.ensures.calls
    (up.after old ready new c.open_again-refusal.ensures.stays stays u))
    (c.open_again-refusal.ensures.leaves honest)
    (one g.T.Stream c.args.limit honest from to ready last c.answer_port-by.result c.answer_port-by.ensures)
    (c.went.ensures.leaves honest c.args.limit)

pub returns-clause-closed : goal.returns-clause-closed
returns-clause-closed g c =
    let from = port g.K.Sockets.traffic c.args.port.now in
    let to = port g.K.Sockets.traffic c.answer_port-by.new.port in
    awake g.T.Stream from to c.open_again-refusal.new.process.intake c.answer_port-by.new.self.intake
    c.went.new.process.intake c.answer_port-by.result c.answer_port-by.ensures.0 c.went.ensures.failed
    (λ other. ap (λ process. process.intake) (c.went.ensures.others other))

pub returns-clause-stays : goal.returns-clause-stays
returns-clause-stays g c =
    let from = port g.K.Sockets.traffic c.args.port.now in
    let to = port g.K.Sockets.traffic c.answer_port-by.new.port in
    let old = parts g.P.Place.lying c.args.process.now in
    let ready = parts g.P.Place.lying c.open_again-refusal.new.process in
    let last = parts g.P.Place.lying c.answer_port-by.new.self in
    let new = parts g.P.Place.lying c.went.new.process in
    up.join old ready new c.open_again-refusal.ensures.stays
    (up.went g.T.Stream from to ready last new c.answer_port-by.result c.answer_port-by.ensures
    (λ other. ap (parts g.P.Place.lying) (c.went.ensures.others other)) c.went.ensures.calls)

pub returns-clause-port : goal.returns-clause-port
returns-clause-port g c =
    up.keeps_port g.T.Stream (port g.K.Sockets.traffic c.args.port.now)
    (port g.K.Sockets.traffic c.answer_port-by.new.port) c.open_again-refusal.new.process.intake
    c.answer_port-by.new.self.intake c.answer_port-by.result c.answer_port-by.ensures.0

pub returns-clause-passes : goal.returns-clause-passes
returns-clause-passes g c =
    let from = port g.K.Sockets.traffic c.args.port.now in
    let to = port g.K.Sockets.traffic c.answer_port-by.new.port in
    let old = parts g.P.Place.lying c.args.process.now in
    let ready = parts g.P.Place.lying c.open_again-refusal.new.process in
    let last = parts g.P.Place.lying c.answer_port-by.new.self in
    let new = parts g.P.Place.lying c.went.new.process in
    let is = c.open_again-refusal.ensures.ready in
    history.one g.T.Stream c.args.limit from to old ready last new _ _ is.0 c.answer_port-by.result is.1
    c.answer_port-by.ensures c.went.ensures.over
    (subst (λ after. Notes (g.O.Observer.answers c.args.observer.now) after (said_of is.0)) (sym c.ended.ensures) is.2)
