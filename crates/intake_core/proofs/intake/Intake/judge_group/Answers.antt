use Rattle.std.proofs.Common.{◌≡◌, ◌+◌, ◌++◌, ◌∷◌, [], true, take, sym, ap, inl}
use Rattle.std.proofs.Common.{subst, ◌∙◌, arith, length-append}
use Rattle.std.proofs.lemmas.List.{take_more, length-take-le}
use Rattle.std.proofs.lemmas.Slice.Zip.{all_zipped_more}
use Rattle.filing_model.specs.Request.{Request}
use Rattle.intake_core.specs.Together.{AreNewBehind, IsJudgedAlone}
use Rattle.intake_core.proofs.Together.{has_key-neither, looks_then, new_at, new_more}
use Rattle.intake_core.proofs.intake.Intake.judge_group.Goals as goal
use Rattle.intake_core.proofs.intake.Intake.judge_group.Goals.{else-loop-at-test}
use Rattle.intake_core.proofs.intake.Intake.judge_group.Goals.{then-loop-at-test+in_ok-may_join+then-not-branch}

pub loop-at-preserved : goal.loop-at-preserved
loop-at-preserved g c =
    let at = c.loop-at.at in
    let all = c.args.requests.now in
    let r : Request = c.index-requests-at.result in
    let before = take at all in
    let longer : take (at + 1) all ≡ before ++ r ∷ [] =
    take_more all at r c.loop-at-test.true ∙ ap (λ (r : Request). before ++ r ∷ []) (sym c.index-requests-at.is) in
    let joins : c.in_ok-may_join.field-0 ≡ true = c.if-not-branch.false in
    let parts = c.request.inside in
    let judged : IsJudgedAlone r c.in_ok-judged.judged =
    subst (λ (r : Request). IsJudgedAlone r c.in_ok-judged.judged) c.request.view_is (record {
      alone = ap (λ (r : Request). r.target) c.request.view_is ∙ c.in_ok-may_join.ensures.alone joins;
      report = c.in_ok-judged.ensures.judged;
      facts = c.in_ok-judged.ensures.facts;
    }) in
    let looks = c.may_join.ensures.looks in
    record {
      many =
          rw (c.push_reserved.ensures.items, c.in_ok-reserve.ensures.items)
          (length-append c.loop-at.group.items (c.in_ok-judged.judged ∷ [])
          ∙ ap (λ n. n + 1) c.loop-at.invariant.many);
      judged =
          rw (longer, c.push_reserved.ensures.items, c.in_ok-reserve.ensures.items)
          (all_zipped_more IsJudgedAlone before c.loop-at.group.items r c.in_ok-judged.judged c.loop-at.invariant.judged
          judged);
      new = λ clean F h holds.
          let cleaned = looks.setting.clean clean in
          let held = c.loop-at.invariant.looks.same cleaned F h in
          let fresh = c.in_ok-may_join.ensures.new clean F held joins
          (λ found. new_at F all at r (holds found) c.loop-at-test.true c.index-requests-at.is) in
          subst (AreNewBehind F) (sym longer)
          (new_more F before r (c.loop-at.invariant.new cleaned F h holds)
          (has_key-neither F before r fresh.0 (c.in_ok-may_join.ensures.own joins)));
      is_open = λ clean F h holds opened some.
          let cleaned = looks.setting.clean clean in
          let held = c.loop-at.invariant.looks.same cleaned F h in
          let fresh = c.in_ok-may_join.ensures.new clean F held joins
          (λ found. new_at F all at r (holds found) c.loop-at-test.true c.index-requests-at.is) in
          fresh.1 (λ found. c.loop-at.invariant.is_open cleaned F h holds opened (inl found));
      limit = λ some.
          omega (
            arith,
            c.in_ok-may_join.ensures.limit joins,
            length-take-le at all (omega (arith, c.loop-at-test.true)),
          );
      looks = looks_then c.args.self.now c.loop-at.self c.may_join.new.self c.loop-at.invariant.looks looks;
    }

pub returns-clause-looks : goal.returns-clause-looks
returns-clause-looks g c = elim c.loop-at-test.branch [
  | else-loop-at-test w ↦ rw w.self-is c.loop-at.invariant.looks
  | then-loop-at-test+in_ok-may_join+then-not-branch w ↦
      rw w.self-is (looks_then c.args.self.now c.loop-at.self w.may_join.new.self c.loop-at.invariant.looks
      w.may_join.ensures.looks)
]
