use Rattle.std.proofs.Common.{◌≡◌, ◌+◌, ◌∷◌, List, length, take, drop, get_or, Ok, true≢false, sym, ap, ◌∙◌}
use Rattle.std.proofs.Common.{arith, rules}
use Rattle.std.proofs.lemmas.List.{drop_more}
use Rattle.std.specs.Option.{is_some}
use Rattle.std.specs.Vec.Iter.{into_iter_items}
use Rattle.filing_model.specs.declared.served.Style.TheVariants.{Problem}
use Rattle.filing_model.specs.Request.{Request}
use Rattle.filing_model.specs.Style.{style_of}
use Rattle.filing_model.specs.Views.{view_outcome}
use Rattle.intake_core.specs.Cache.{IsKeptIn, IsNameIfAny}
use Rattle.intake_core.specs.Held.{HoldsRequests, old_style_of}
use Rattle.intake_core.proofs.Answering.{AnswersFirst, Tells, answers_all, answers_more}
use Rattle.intake_core.proofs.Deciding.{IfSome-made}
use Rattle.intake_core.proofs.intake.Intake.answer_group.Goals as goal
use Rattle.intake_core.proofs.intake.Intake.answer_group.Goals.{in-Some, in_default}

pub loop-request-preserved : goal.loop-request-preserved
loop-request-preserved g c =
    let i = c.loop-request.request-index in
    let rs = c.args.requests.now in
    let outcomes = c.args.outcomes.items in
    elim c.match-next.branch [
      | in-Some w ↦
          let o = w.in-Some.outcome in
          let taken : into_iter_items c.loop-request.outcomes ≡ o ∷ into_iter_items c.next.new.self =
          rw w.in-Some.is at c.next.ensures.items in
          let there : drop i outcomes ≡ get_or outcomes i o ∷ drop (i + 1) outcomes =
          drop_more outcomes i o (omega (arith, c.loop-request-test.true, c.requires.each)) in
          let both : o ∷ into_iter_items c.next.new.self ≡ get_or outcomes i o ∷ drop (i + 1) outcomes =
          sym taken ∙ c.loop-request.invariant.left ∙ there in
          let fewer = rw w.in-Some.is at c.next.ensures.len in
          let named : IsNameIfAny c.request-item.result w.ok-name.result =
          rw w.ok-name.ensures.value (IfSome-made w.name_of.result _ w.name_of.ensures) in
          let same : (requests : List Request) → HoldsRequests g.S.Store c.loop-request.self requests
          → IsKeptIn requests (record { request = c.request-item.result; outcome = view_outcome o })
          → Problem ≡ style_of (take (old_style_of c.loop-request.self) requests) c.request-item.result
          → HoldsRequests g.S.Store w.remember.new.self requests =
          λ requests held is styled. w.remember.ensures.same requests held named is styled in
          let first : o ≡ get_or outcomes i o = cc in
          let tells : Tells o (Ok w.answer_by.result) = (w.answer_by.ensures.0, w.answer_by.ensures.1) in
          let answers : AnswersFirst g.S.Store (i + 1) rs outcomes c.args.self.now w.remember.new.self
          c.args.results.now
          w.push_reserved.new.self =
          answers_more rs outcomes c.requires.each i c.args.self.now c.loop-request.self w.remember.new.self
          c.args.results.now c.loop-request.results w.push_reserved.new.self c.request-item.result o w.answer_by.result
          c.loop-request.invariant.answers c.loop-request-test.true c.request-item.is first same w.remember.ensures.rest
          tells w.push_reserved.ensures.items w.push_reserved.ensures.len w.push_reserved.ensures.capacity in
          record {
            answers = rw (w.self-is, w.results-is) answers;
            left = cc;
            len = omega (arith, fewer, c.loop-request.invariant.len);
          }
      | in_default w ↦
          absurd (true≢false
          (sym (c.next.ensures.variant.1 (omega (arith, c.loop-request.invariant.len, c.loop-request-test.true)))
          ∙ ap is_some w.in_default.is))
    ]

pub returns : goal.returns
returns g c =
    let end : c.loop-request.request-index ≡ length c.args.requests.now = search rules in
    answers_all c.args.requests.now c.args.outcomes.items c.requires.each c.loop-request.request-index c.args.self.now
    c.loop-request.self c.args.results.now c.loop-request.results end c.loop-request.invariant.answers
