use Rattle.std.proofs.Common.{◌≡◌, ◌-◌, inl, inr, ◌∙◌, ap, sym, refl, Some}
use Rattle.std.proofs.Common.{arith}
use Rattle.connection_hall.specs.Lending.{lent as lent_of}
use Rattle.connection_hall.specs.Places.{lent}
use Rattle.connection_hall.specs.Running.{turns}
use Rattle.connection_hall.proofs.Halls.{ended, frames_same}
use Rattle.connection_hall.proofs.hall.Hall.end.Goals as goal

pub returns-then-had_loan-clause-running : goal.returns-then-had_loan-clause-running
returns-then-had_loan-clause-running g c answers end running =
    let old = c.args.self.now in
    let one : lent (Some c.args.served) ≡ 1 = rw (sym c.is_some-had_loan.ensures ∙ c.if-had_loan.true) refl in
    ended g.S.Stream answers (turns old) _ old _ (g.P.Sockets.traffic c.args.sockets.now)
    (g.P.Sockets.traffic c.end.new.self) c.args.served c.args.why refl
    (record {
      bounds = refl;
      left = omega arith;
      most = c.give_back.ensures.most;
      limit = refl;
      noted = λ since noted. noted;
    }) refl (c.give_back.ensures.fewer ∙ ap (λ n. lent_of old.loans - n) (sym one)) refl
    (rw c.into_stream.ensures at c.end.ensures.over) end c.give_back.ensures.turns.turns
    (λ i it low short. inl (c.give_back.ensures.woken short.1 i (omega (arith, low, old.turns)))) running

pub returns-else-had_loan-clause-running : goal.returns-else-had_loan-clause-running
returns-else-had_loan-clause-running g c answers end running =
    let old = c.args.self.now in
    let none : lent (Some c.args.served) ≡ 0 = rw (sym c.is_some-had_loan.ensures ∙ c.if-had_loan.false) refl in
    ended g.S.Stream answers (turns old) (turns old) old _ (g.P.Sockets.traffic c.args.sockets.now)
    (g.P.Sockets.traffic c.end.new.self) c.args.served c.args.why refl (frames_same old _ refl refl refl refl) refl
    (omega (arith, none)) refl (rw c.into_stream.ensures at c.end.ensures.over) end (λ i is. is)
    (λ i it low short. inr short) running
