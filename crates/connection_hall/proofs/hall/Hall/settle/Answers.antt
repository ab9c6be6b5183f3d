use Rattle.std.proofs.Common.{◌≡◌, ◌⊎◌, inl, inr, ◌∙◌, ap, sym, refl, ◌+◌, Bool, true, false, not, Some, None}
use Rattle.std.proofs.Common.{Option, arith}
use Rattle.std.specs.Prelude.{is_some}
use Rattle.connection_hall.specs.declared.loan.Loan.{Loan}
use Rattle.connection_hall.specs.Places.{lent, lent_places}
use Rattle.connection_hall.specs.Running.{turns}
use Rattle.connection_hall.proofs.Halls.{count_if, changed, frames_same}
use Rattle.connection_hall.proofs.hall.Hall.settle.Goals as goal
use Rattle.connection_hall.proofs.hall.Hall.settle.Goals.{else-had_loan-via-then-had_loan+else-is_none}
use Rattle.connection_hall.proofs.hall.Hall.settle.Goals.{else-had_loan-via-else-had_loan}

none_lent : (loan : Option Loan) (b : Bool) → is_some loan ≡ not b → b ≡ true → count_if (is_some loan) ≡ 0
none_lent None b is none = refl
none_lent (Some loan) b is none = absurd (let h : true ≡ not true = rw none at is in cc)

lent_still : (loan loan' : Option Loan) → (loan' ≡ None) ⊎ (loan' ≡ loan)
    → (is_some loan ≡ false) ⊎ (is_some loan' ≡ true)
    → count_if (is_some loan') ≡ count_if (is_some loan)
lent_still None loan' same has = elim same [ inl none ↦ rw none refl | inr is ↦ rw is refl ]
lent_still (Some loan) loan' same has = elim has [
  | inl none ↦ absurd (let h : true ≡ false = none in cc)
  | inr some ↦ rw some refl
]

some_of : (loan : Option Loan) (b : Bool) → is_some loan ≡ not b → b ≡ false → is_some loan ≡ true
some_of loan b is none = is ∙ ap not none

pub returns-then-is_none-clause-running : goal.returns-then-is_none-clause-running
returns-then-is_none-clause-running g c answers traffic it number had loan owes running =
    let old = c.args.self.now in
    let on = c.args.served.now in
    let one : lent (Some it) ≡ 1 = rw (had ∙ c.if-had_loan.true) refl in
    let zero : lent (Some on) ≡ 0 = none_lent on.loan c.is_none.result c.is_none.ensures c.if-is_none.true in
    let fewer = c.give_back.ensures.fewer in
    let first = c.saturating_add.ensures in
    let both = c.saturating_add-self.ensures in
    changed g.S.Stream answers (turns old) _ old _ traffic it on refl (record {
      bounds = refl;
      left = omega arith;
      most = c.give_back.ensures.most;
      limit = refl;
      noted = λ since noted. noted;
    }) refl number (λ all. omega (arith, all, fewer, one, zero)) (λ h. omega (arith, h, owes, first, both))
    c.give_back.ensures.turns.turns
    (λ i other low short. inl (c.give_back.ensures.woken short.1 i (omega (arith, low, old.turns)))) running

pub returns-else-had_loan-clause-running : goal.returns-else-had_loan-clause-running
returns-else-had_loan-clause-running g c answers traffic it number had loan owes running =
    let old = c.args.self.now in
    let on = c.args.served.now in
    let first = c.saturating_add.ensures in
    let both = c.saturating_add-self.ensures in
    elim c.else-had_loan.branch [
      | else-had_loan-via-then-had_loan+else-is_none w ↦ rw w.self-is
          (let same = lent_still it.loan on.loan loan
          (inr (some_of on.loan w.is_none.result w.is_none.ensures w.if-is_none.false)) in
          changed g.S.Stream answers (turns old) (turns old) old _ traffic it on refl (frames_same old _ refl refl
          refl refl)
          refl number (λ all. all ∙ ap (λ n. lent_places old.places.items + n) (sym same))
          (λ h. omega (arith, h, owes, first, both)) (λ i is. is) (λ i other low short. inr short) running)
      | else-had_loan-via-else-had_loan w ↦ rw w.self-is
          (let same = lent_still it.loan on.loan loan (inl (had ∙ w.if-had_loan.false)) in
          changed g.S.Stream answers (turns old) (turns old) old _ traffic it on refl (frames_same old _ refl refl
          refl refl)
          refl number (λ all. all ∙ ap (λ n. lent_places old.places.items + n) (sym same))
          (λ h. omega (arith, h, owes, first, both)) (λ i is. is) (λ i other low short. inr short) running)
    ]
