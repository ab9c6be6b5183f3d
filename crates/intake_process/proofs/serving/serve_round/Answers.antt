use Rattle.std.proofs.Common.{None, refl, sym, ap, subst, ◌∙◌}
use Rattle.std.specs.Prelude.{option_map}
use Rattle.gateway_rounds.specs.Ports.{port}
use Rattle.intake_process.specs.Process.{parts}
use Rattle.intake_process.specs.History.{Passes}
use Rattle.intake_process.proofs.Results.{none_told}
use Rattle.intake_process.proofs.Turns.{join, none}
use Rattle.intake_process.proofs.Up as up
use Rattle.intake_process.proofs.History as history
use Rattle.intake_process.proofs.serving.serve_round.Goals as goal

pub returns-in_err-go_on-clause-answers : goal.returns-in_err-go_on-clause-answers
returns-in_err-go_on-clause-answers g c = λ honest.
    let from = port g.K.Sockets.traffic c.args.port.now in
    let mid = port g.K.Sockets.traffic c.go_on.new.self in
    let old = parts g.P.Place.lying c.args.process.now in
    none g.T.Stream c.args.limit from mid old c.go_on.ensures.running

pub returns-in_err-go_on-clause-stays : goal.returns-in_err-go_on-clause-stays
returns-in_err-go_on-clause-stays g c = up.same (parts g.P.Place.lying c.args.process.now)

pub returns-in_err-go_on-clause-passes : goal.returns-in_err-go_on-clause-passes
returns-in_err-go_on-clause-passes g c =
    let from = port g.K.Sockets.traffic c.args.port.now in
    let mid = port g.K.Sockets.traffic c.go_on.new.self in
    let old = parts g.P.Place.lying c.args.process.now in
    subst (λ taken. Passes g.T.Stream c.args.limit from mid old old (g.O.Observer.answers c.args.observer.now)
    (g.O.Observer.answers c.args.observer.now) taken)
    (sym (ap (option_map (λ _. 1)) (none_told c.from_residual.result c.from_residual.ensures.0)))
    (history.none g.T.Stream c.args.limit from mid old _ _ None tt c.go_on.ensures.running refl)

pub returns-then-waits-clause-answers : goal.returns-then-waits-clause-answers
returns-then-waits-clause-answers g c = λ honest.
    let from = port g.K.Sockets.traffic c.args.port.now in
    let mid = port g.K.Sockets.traffic c.go_on.new.self in
    let to = port g.K.Sockets.traffic c.answer_waiting.new.port in
    let old = parts g.P.Place.lying c.args.process.now in
    let new = parts g.P.Place.lying c.answer_waiting.new.process in
    join g.T.Stream c.args.limit from mid to old old new (up.same old) c.answer_waiting.ensures.stays
    (none g.T.Stream c.args.limit from mid old c.go_on.ensures.running) (c.answer_waiting.ensures.answers honest)

pub returns-then-waits-clause-passes : goal.returns-then-waits-clause-passes
returns-then-waits-clause-passes g c =
    let from = port g.K.Sockets.traffic c.args.port.now in
    let mid = port g.K.Sockets.traffic c.go_on.new.self in
    let to = port g.K.Sockets.traffic c.answer_waiting.new.port in
    let old = parts g.P.Place.lying c.args.process.now in
    let new = parts g.P.Place.lying c.answer_waiting.new.process in
    history.behind g.T.Stream c.args.limit from mid to old new _ _ _ c.go_on.ensures.running
    c.answer_waiting.ensures.passes

pub returns-then-waits-clause-asked : goal.returns-then-waits-clause-asked
returns-then-waits-clause-asked g c = c.answer_waiting.ensures.port.asked ∙ c.go_on.ensures.asked

pub returns-then-waits-clause-bounds : goal.returns-then-waits-clause-bounds
returns-then-waits-clause-bounds g c = c.answer_waiting.ensures.port.bounds ∙ c.go_on.ensures.bounds

pub returns-else-waits-clause-answers : goal.returns-else-waits-clause-answers
returns-else-waits-clause-answers g c = λ honest.
    let from = port g.K.Sockets.traffic c.args.port.now in
    let mid = port g.K.Sockets.traffic c.go_on.new.self in
    let old = parts g.P.Place.lying c.args.process.now in
    none g.T.Stream c.args.limit from mid old c.go_on.ensures.running

pub returns-else-waits-clause-stays : goal.returns-else-waits-clause-stays
returns-else-waits-clause-stays g c = up.same (parts g.P.Place.lying c.args.process.now)

pub returns-else-waits-clause-passes : goal.returns-else-waits-clause-passes
returns-else-waits-clause-passes g c =
    let from = port g.K.Sockets.traffic c.args.port.now in
    let mid = port g.K.Sockets.traffic c.go_on.new.self in
    let old = parts g.P.Place.lying c.args.process.now in
    history.idle g.T.Stream c.args.limit from mid old _ c.go_on.ensures.running (c.waits.ensures.none c.if-waits.false)
