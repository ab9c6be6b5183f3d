use Rattle.std.proofs.Common.{Some, refl, sym, subst, ◌∙◌, true≢false, arith}
use Rattle.gateway_rounds.specs.Ports.{port}
use Rattle.intake_process.specs.Process.{parts}
use Rattle.intake_process.specs.History.{Passes}
use Rattle.intake_process.proofs.Results.{none_told}
use Rattle.intake_process.proofs.Turns.{none, join}
use Rattle.intake_process.proofs.Up as up
use Rattle.intake_process.proofs.History as history
use Rattle.intake_process.proofs.serving.serve_port.Goals as goal

pub loop-taken-init : goal.loop-taken-init
loop-taken-init g c =
    let first = port g.K.Sockets.traffic c.args.port.now in
    let old = parts g.P.Place.lying c.args.process.now in
    record {
      answers = λ honest. none g.T.Stream c.args.limit first first old (λ answers running. running);
      shut = λ shut. (refl, shut);
      closed = λ awake. awake;
      stays = up.same old;
      passes = history.none g.T.Stream c.args.limit first first old _ _ (Some 0) refl (λ answers running. running) refl;
      asked = omega arith;
      bounds = refl;
    }

pub returns-in_err-serve_round-clause-answers : goal.returns-in_err-serve_round-clause-answers
returns-in_err-serve_round-clause-answers g c = λ honest.
    let first = port g.K.Sockets.traffic c.args.port.now in
    let mid = port g.K.Sockets.traffic c.loop-taken.port in
    let last = port g.K.Sockets.traffic c.serve_round.new.port in
    let old = parts g.P.Place.lying c.args.process.now in
    let between = parts g.P.Place.lying c.loop-taken.process in
    let new = parts g.P.Place.lying c.serve_round.new.process in
    join g.T.Stream c.args.limit first mid last old between new c.loop-taken.invariant.stays c.serve_round.ensures.stays
    (c.loop-taken.invariant.answers honest) (c.serve_round.ensures.answers honest)

pub returns-in_err-serve_round-clause-shut : goal.returns-in_err-serve_round-clause-shut
returns-in_err-serve_round-clause-shut g c = λ shut.
    absurd (true≢false (sym (c.loop-taken.invariant.shut shut).1 ∙ sym c.is_shut.ensures ∙ c.if-is_shut.false))

pub loop-taken-preserved : goal.loop-taken-preserved
loop-taken-preserved g c =
    let first = port g.K.Sockets.traffic c.args.port.now in
    let mid = port g.K.Sockets.traffic c.loop-taken.port in
    let last = port g.K.Sockets.traffic c.serve_round.new.port in
    let old = parts g.P.Place.lying c.args.process.now in
    let between = parts g.P.Place.lying c.loop-taken.process in
    let new = parts g.P.Place.lying c.serve_round.new.process in
    record {
      answers = λ honest.
          join g.T.Stream c.args.limit first mid last old between new c.loop-taken.invariant.stays
          c.serve_round.ensures.stays
          (c.loop-taken.invariant.answers honest) (c.serve_round.ensures.answers honest);
      shut = λ shut. absurd (true≢false (sym (c.loop-taken.invariant.shut shut).1 ∙ sym c.is_shut.ensures
          ∙ c.if-is_shut.false));
      closed = λ awake. c.serve_round.ensures.closed (c.loop-taken.invariant.closed awake);
      stays = up.join old between new c.loop-taken.invariant.stays c.serve_round.ensures.stays;
      passes = history.join g.T.Stream c.args.limit first mid last old between new _ _ _ c.loop-taken.taken (Some 1)
          c.loop-taken.invariant.passes (rw c.in_ok-serve_round.was at c.serve_round.ensures.passes);
      asked = omega (arith, c.serve_round.ensures.asked, c.loop-taken.invariant.asked);
      bounds = c.serve_round.ensures.bounds ∙ c.loop-taken.invariant.bounds;
    }

pub returns-in_err-serve_round-clause-stays : goal.returns-in_err-serve_round-clause-stays
returns-in_err-serve_round-clause-stays g c =
    let old = parts g.P.Place.lying c.args.process.now in
    let between = parts g.P.Place.lying c.loop-taken.process in
    let new = parts g.P.Place.lying c.serve_round.new.process in
    up.join old between new c.loop-taken.invariant.stays c.serve_round.ensures.stays

pub returns-in_err-serve_round-clause-passes : goal.returns-in_err-serve_round-clause-passes
returns-in_err-serve_round-clause-passes g c =
    let first = port g.K.Sockets.traffic c.args.port.now in
    let mid = port g.K.Sockets.traffic c.loop-taken.port in
    let last = port g.K.Sockets.traffic c.serve_round.new.port in
    let old = parts g.P.Place.lying c.args.process.now in
    let between = parts g.P.Place.lying c.loop-taken.process in
    let new = parts g.P.Place.lying c.serve_round.new.process in
    subst (λ taken. Passes g.T.Stream c.args.limit first last old new (g.O.Observer.answers c.args.observer.now)
    (g.O.Observer.answers c.serve_round.new.observer) taken)
    (sym (none_told c.from_residual.result c.from_residual.ensures.0))
    (history.untold g.T.Stream c.args.limit first last old new _ _ _
    (history.join g.T.Stream c.args.limit first mid last old between new _ _ _ c.loop-taken.taken _
    c.loop-taken.invariant.passes c.serve_round.ensures.passes))

pub returns-in_err-serve_round-clause-bounds : goal.returns-in_err-serve_round-clause-bounds
returns-in_err-serve_round-clause-bounds g c = c.serve_round.ensures.bounds ∙ c.loop-taken.invariant.bounds
