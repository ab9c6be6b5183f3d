use Rattle.std.proofs.Common.{None, ap, refl, rules, subst, sym, ◌+◌, ◌∙◌, ◌≡◌}
use Rattle.std.specs.Prelude.{IfOk}
use Rattle.std.specs.Result.{result_ok}
use Rattle.gateway_rounds.specs.Ports.{port, Runs}
use Rattle.intake_process.specs.Process.{parts}
use Rattle.intake_process.specs.History.{Passes}
use Rattle.intake_process.specs.Turns.{AnswersSome}
use Rattle.intake_process.proofs.Results.{none_told}
use Rattle.intake_process.proofs.Turns.{none}
use Rattle.intake_process.proofs.History as history
use Rattle.intake_process.proofs.serving.listen_and_serve.Goals as goal

pub returns-in_err-listen-clause-answers : goal.returns-in_err-listen-clause-answers
returns-in_err-listen-clause-answers g c = λ honest.
    let first = port g.K.Sockets.traffic c.args.port.now in
    let mid = port g.K.Sockets.traffic c.listen.new.self in
    let old = parts g.P.Place.lying c.args.process.now in
    none g.T.Stream c.args.limit first mid old
    (λ answers running. subst (λ port'. Runs g.T.Stream answers port') (sym c.listen.ensures) running)

pub returns-in_err-listen-clause-passes : goal.returns-in_err-listen-clause-passes
returns-in_err-listen-clause-passes g c =
    let first = port g.K.Sockets.traffic c.args.port.now in
    let mid = port g.K.Sockets.traffic c.listen.new.self in
    let old = parts g.P.Place.lying c.args.process.now in
    subst (λ taken. Passes g.T.Stream c.args.limit first mid old old (g.O.Observer.answers c.args.observer.now)
    (g.O.Observer.answers c.args.observer.now) taken)
    (sym (none_told c.from_residual.result c.from_residual.ensures.0))
    (history.none g.T.Stream c.args.limit first mid old _ _ None tt
    (λ answers running. subst (λ port'. Runs g.T.Stream answers port') (sym c.listen.ensures) running) refl)

pub returns-clause-answers : goal.returns-clause-answers
returns-clause-answers g c = λ honest.
    let last = port g.K.Sockets.traffic c.serve_port.new.port in
    let old = parts g.P.Place.lying c.args.process.now in
    let new = parts g.P.Place.lying c.serve_port.new.process in
    subst (λ first. AnswersSome g.T.Stream c.args.limit first last old new) c.listen.ensures
    (c.serve_port.ensures.answers honest)

pub returns-clause-passes : goal.returns-clause-passes
returns-clause-passes g c =
    let last = port g.K.Sockets.traffic c.serve_port.new.port in
    let old = parts g.P.Place.lying c.args.process.now in
    let new = parts g.P.Place.lying c.serve_port.new.process in
    subst (λ first. Passes g.T.Stream c.args.limit first last old new (g.O.Observer.answers c.args.observer.now)
    (g.O.Observer.answers c.serve_port.new.observer) (result_ok c.serve_port.result)) c.listen.ensures (search rules)

pub returns-clause-asked : goal.returns-clause-asked
returns-clause-asked g c =
    let last = port g.K.Sockets.traffic c.serve_port.new.port in
    subst (λ first. IfOk c.serve_port.result (λ taken. last.asked ≡ first.asked + taken)) c.listen.ensures
    c.serve_port.ensures.asked

pub returns-clause-bounds : goal.returns-clause-bounds
returns-clause-bounds g c = c.serve_port.ensures.bounds ∙ ap (λ port. port.hall.bounds) c.listen.ensures
