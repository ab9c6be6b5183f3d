use Rattle.std.proofs.Common.{◌≡◌, ℕ, List, true, bytes_eq, refl, sym, ap, ◌∙◌}
use Rattle.std.specs.Prelude.{◌&&◌}
use Rattle.filing_model.specs.Request.{same_content, same_target}
use Rattle.filing_model.specs.Register.{Outcome}
use Rattle.filing_model.specs.Answer.{answer_by}
use Rattle.intake_core.specs.Cache.{kept_of}
use Rattle.intake_core.proofs.CacheLemmas.{told_other, told_same}
use Rattle.intake_core.proofs.cache.Remembered.answer_to.Goals.{After-asks_the_same}
use Rattle.intake_core.proofs.cache.Remembered.answer_to.Goals as goal

-- what is remembered was compared with the request
compared : (c : After-asks_the_same) → c.asks_the_same.result
    ≡ same_content (kept_of c.args.request.now.filer c.args.request.now.key c.args.self.now).request c.args.request.now
compared c =
    let asked = c.args.request.now in
    c.asks_the_same.ensures
    ∙ ap (λ (kept : List ℕ). bytes_eq kept asked.body && same_target c.args.self.now.target asked.target)
    c.as_slice.ensures.value

pub returns-then-not-asks_the_same : goal.returns-then-not-asks_the_same
returns-then-not-asks_the_same c =
    let asked = c.args.request.now in
    let other =
    sym (compared (goal.at.returns-then-not-asks_the_same c).After-asks_the_same) ∙ c.if-not-asks_the_same.true in
    (told_other (kept_of asked.filer asked.key c.args.self.now) asked true other, refl)

pub returns : goal.returns
returns c =
    let asked = c.args.request.now in
    let same = sym (compared (goal.at.returns c).After-asks_the_same) ∙ c.if-not-asks_the_same.false in
    let told = told_same (kept_of asked.filer asked.key c.args.self.now) asked true same in (
      c.answer_by.ensures.0 ∙ ap (λ (o : Outcome). answer_by o true) c.in_ok-copied.ensures ∙ told,
      c.answer_by.ensures.1,
    )
