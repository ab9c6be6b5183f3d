use Rattle.std.proofs.Common.{◌≡◌, ◌∙◌, Some, None, sym, refl}
use Rattle.schedule.proofs.Entries.{element_at}
use Rattle.schedule.proofs.Steps.{away_past, away_down}
use Rattle.schedule.proofs.element.up_at.Goals as goal

some_is_none : {X : Type 0} (x : X) → Some x ≡ None → ⊥
some_is_none x e = cc

pub returns-in_err-at-clause-none : goal.returns-in_err-at-clause-none
returns-in_err-at-clause-none g c = λ _. away_past c.args.filers.now c.args.outbox (c.in_err-at.ensures.none refl)

pub returns-then-is_up-clause-some : goal.returns-then-is_up-clause-some
returns-then-is_up-clause-some g c =
    let filer = c.index-filers-at.result in
    let at = c.in_ok-at.ensures.some in (
      at.0,
      filer,
      element_at c.args.filers.now c.in_ok-at.at filer at.1 c.index-filers-at.is,
      sym c.is_up.ensures
          ∙ c.if-is_up.true,
      at.1,
    )

pub returns-else-is_up-clause-none : goal.returns-else-is_up-clause-none
returns-else-is_up-clause-none g c = λ _.
    let filer = c.index-filers-at.result in
    let at = c.in_ok-at.ensures.some in
    away_down c.args.filers.now c.args.outbox c.in_ok-at.at filer at.0
    (element_at c.args.filers.now c.in_ok-at.at filer at.1 c.index-filers-at.is) (sym c.is_up.ensures
    ∙ c.if-is_up.false)

pub returns-then-is_up-clause-none : goal.returns-then-is_up-clause-none
returns-then-is_up-clause-none g c = λ e. absurd (some_is_none c.in_ok-at.at e)

pub returns-else-is_up-clause-some : goal.returns-else-is_up-clause-some
returns-else-is_up-clause-some g c = tt
