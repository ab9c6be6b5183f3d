use Rattle.std.proofs.Common.{IfOk, IfSome, true, take, ap, subst, ◌≡◌}
use Rattle.filing_model.specs.Request.{has_key}
use Rattle.intake_core.specs.Answered.{IsAnswerTo}
use Rattle.intake_core.proofs.Deciding.{IfSome-made}
use Rattle.intake_core.proofs.Together.{looks_cache, looks_then, ok_both}
use Rattle.intake_core.proofs.intake.Intake.answer_repeat.Goals as goal

-- its name, if there was memory for one
pub find_repeat-requires : goal.find_repeat-requires
find_repeat-requires g c = rw c.ok-name.ensures.value (IfSome-made c.name_of.result _ c.name_of.ensures)

pub returns-in-Some-clause-repeat : goal.returns-in-Some-clause-repeat
returns-in-Some-clause-repeat g c = λ clean requests h.
    c.in-Some.ensures.answer requests h (rw c.ok-name.ensures.value (IfSome-made c.name_of.result _ c.name_of.ensures))

pub returns-in-Some-clause-looks : goal.returns-in-Some-clause-looks
returns-in-Some-clause-looks g c =
    looks_cache c.args.self.now c.recall.new.self c.recall.ensures.same c.recall.ensures.rest

pub returns-clause-new : goal.returns-clause-new
returns-clause-new g c = λ clean requests h.
    let held = c.recall.ensures.same requests h in
    ok_both c.find_repeat.result _ _ _ (λ found new alive is. (new is, alive))
    (c.find_repeat.ensures.new clean requests held) (c.find_repeat.ensures.is_open clean requests held)

pub returns-clause-repeat : goal.returns-clause-repeat
returns-clause-repeat g c = λ clean requests h.
    subst (λ n. IfOk c.find_repeat.result (λ found. IfSome found (λ answer.
    IsAnswerTo (take n requests) requests c.args.request.now answer
    × (has_key requests c.args.request.now ≡ true)))) (ap (λ s. s.old_style) c.recall.ensures.rest.store)
    (c.find_repeat.ensures.repeat clean requests (c.recall.ensures.same requests h))

pub returns-clause-looks : goal.returns-clause-looks
returns-clause-looks g c =
    looks_then c.args.self.now c.recall.new.self c.find_repeat.new.self
    (looks_cache c.args.self.now c.recall.new.self c.recall.ensures.same c.recall.ensures.rest)
    c.find_repeat.ensures.looks
