use Rattle.std.proofs.Common.{◌≡◌, ◌<◌, ◌+◌, ◌∷◌, ◌++◌, [], take, length, sym, ap, subst, ◌∙◌, arith}
use Rattle.std.proofs.lemmas.List.{take_all, take_more, length-take-le, map-append}
use Rattle.filing_model.specs.Request.{Request}
use Rattle.register_rows.specs.declared.moment.Moment.{Moment}
use Rattle.intake_core.specs.Together.{AddsResults, in_milliseconds}
use Rattle.intake_core.proofs.Dating.{length_milliseconds}
use Rattle.intake_core.proofs.Group.{adds_none, adds_one, adds_then}
use Rattle.intake_core.proofs.intake.Intake.submit_each.Goals as goal

pub loop-at-init : goal.loop-at-init
loop-at-init g c = adds_none c.args.self.now c.args.results.now

pub loop-at-preserved : goal.loop-at-preserved
loop-at-preserved g c =
    let i = c.loop-at.at in
    let all = c.args.requests.now in
    let moments = c.args.moments.now in
    let request : Request = c.index-requests-at.result in
    let moment : Moment = c.index-moments-at.result in
    let low : i < length moments = omega (arith, c.loop-at-test.true, c.requires.moments) in
    let longer : take i all ++ request ∷ [] ≡ take (i + 1) all =
    sym (take_more all i request c.loop-at-test.true
    ∙ ap (λ (r : Request). take i all ++ r ∷ []) (sym c.index-requests-at.is)) in
    let later : in_milliseconds (take i moments) ++ moment.milliseconds ∷ [] ≡ in_milliseconds (take (i + 1) moments) =
    sym (ap in_milliseconds (take_more moments i moment low
    ∙ ap (λ (t : Moment). take i moments ++ t ∷ []) (sym c.index-moments-at.is))
    ∙ map-append (λ (t : Moment). t.milliseconds) (take i moments) (moment ∷ [])) in
    let as_many : length (in_milliseconds (take i moments)) ≡ length (take i all) =
    length_milliseconds (take i moments) ∙ length-take-le i moments (omega (arith, low))
    ∙ sym (length-take-le i all (omega (arith, c.loop-at-test.true))) in
    subst (λ ms. AddsResults g.S.Store (take (i + 1) all) ms c.args.self.now c.submit_request-result.new.self
    c.args.results.now c.push_reserved.new.self) later
    (subst (λ rs. AddsResults g.S.Store rs (in_milliseconds (take i moments) ++ moment.milliseconds ∷ [])
    c.args.self.now c.submit_request-result.new.self c.args.results.now c.push_reserved.new.self) longer
    (adds_then (Unit {0}) (λ F. Unit {0}) (take i all) (request ∷ []) (in_milliseconds (take i moments))
    (moment.milliseconds ∷ []) c.args.self.now c.loop-at.self c.submit_request-result.new.self c.args.results.now
    c.loop-at.results
    c.push_reserved.new.self as_many c.loop-at.invariant
    (adds_one request moment.milliseconds c.submit_request-result.result c.loop-at.self
    c.submit_request-result.new.self c.loop-at.results c.push_reserved.new.self c.submit_request-result.ensures.decides
    c.submit_request-result.ensures.dates c.push_reserved.ensures.items c.push_reserved.ensures.len
    c.push_reserved.ensures.capacity)))

pub push_reserved-requires : goal.push_reserved-requires
push_reserved-requires g c =
    omega (
      arith,
      c.requires.room,
      c.loop-at-test.true,
      c.loop-at.invariant.len,
      c.loop-at.invariant.each,
      c.loop-at.invariant.room,
      length-take-le c.loop-at.at c.args.requests.now (omega (arith, c.loop-at-test.true)),
    )

pub returns : goal.returns
returns g c =
    let all = c.args.requests.now in
    let moments = c.args.moments.now in
    subst (λ ms. AddsResults g.S.Store all ms c.args.self.now c.loop-at.self c.args.results.now c.loop-at.results)
    (ap in_milliseconds (take_all c.loop-at.at moments (omega (arith, c.requires.moments, c.loop-at-test.false))))
    (subst (λ rs. AddsResults g.S.Store rs (in_milliseconds (take c.loop-at.at moments)) c.args.self.now c.loop-at.self
    c.args.results.now c.loop-at.results) (take_all c.loop-at.at all (omega (arith, c.loop-at-test.false)))
    c.loop-at.invariant)
