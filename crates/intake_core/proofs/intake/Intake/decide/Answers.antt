use Rattle.std.proofs.Common.{◌≤◌, ℕ, take, IfOk, inl, inr, true≢false, sym, ◌∙◌, subst, rules}
use Rattle.sqlite.proofs.StateLemmas.{survives_then, survives_weaker}
use Rattle.filing_model.specs.Request.{Request}
use Rattle.register_store.specs.Store.{shows}
use Rattle.register_store.proofs.StoreLemmas.{refused_so}
use Rattle.register_tables.specs.Registers.{LeavesReceived, LeavesRegister}
use Rattle.intake_core.specs.Answered.{IsAnswerTo}
use Rattle.intake_core.specs.Held.{HoldsRequests, with_request}
use Rattle.intake_core.specs.Moments.{HoldsMoments, with_moment}
use Rattle.intake_core.proofs.Dating.{moment_repeat}
use Rattle.intake_core.proofs.Deciding.{HoldsRequests-repeat}
use Rattle.intake_core.proofs.intake.Intake.decide.Goals as goal

-- ---- a repeat

pub returns-in-Some-clause-decided : goal.returns-in-Some-clause-decided
returns-in-Some-clause-decided g c =
    let r : Request = c.args.request.now in
    let looks = c.in_ok-answer.ensures.looks in
    record {
      answer = λ clean requests h _.
          let is = rw c.in-Some.is at (c.in_ok-answer.ensures.repeat clean requests h) in
          (is.0, HoldsRequests-repeat requests r c.answer_repeat.new.self is.1 (looks.same clean requests h));
      err = λ clean requests h. tt;
      setting = looks.setting;
      stopped = looks.stopped;
      running = λ e. cc;
      crash = survives_weaker (shows g.S.Store c.args.self.now.store)
          (shows g.S.Store c.answer_repeat.new.self.store) _ _ (λ clean trees none. absurd none) looks.crash;
    }

pub returns-in-Some-clause-dated : goal.returns-in-Some-clause-dated
returns-in-Some-clause-dated g c =
    let r : Request = c.args.request.now in
    let m = c.args.moment.milliseconds in
    let looks = c.in_ok-answer.ensures.looks in
    record {
      dated = λ clean requests h moments had _.
          let is = rw c.in-Some.is at (c.in_ok-answer.ensures.repeat clean requests h) in
          subst (HoldsMoments g.S.Store c.answer_repeat.new.self) (sym (moment_repeat requests r m moments is.1))
          (looks.moments.same clean requests h moments had);
      same = λ clean requests h moments had. tt;
      crash = survives_weaker (shows g.S.Store c.args.self.now.store)
          (shows g.S.Store c.answer_repeat.new.self.store) _ _ (λ clean trees none. absurd none) looks.crash;
      next = looks.moments.next;
    }

pub returns-in-Some-clause-is_open : goal.returns-in-Some-clause-is_open
returns-in-Some-clause-is_open g c = λ clean requests h open_or_new. elim open_or_new [
  | inl alive ↦ c.in_ok-answer.ensures.is_open clean requests h alive
  | inr fresh ↦
      let is = rw c.in-Some.is at (c.in_ok-answer.ensures.repeat clean requests h) in
      absurd (true≢false (sym is.1 ∙ fresh))
]

pub returns-in-Some-clause-room : goal.returns-in-Some-clause-room
returns-in-Some-clause-room g c = λ clean requests h fresh.
    let is = rw c.in-Some.is at (c.in_ok-answer.ensures.repeat clean requests h) in
    absurd (true≢false (sym is.1 ∙ fresh))

-- ---- a new request

pub returns-in-None-clause-decided : goal.returns-in-None-clause-decided
returns-in-None-clause-decided g c =
    let r : Request = c.args.request.now in
    let looks = c.in_ok-answer.ensures.looks in
    let kept = c.keep.ensures.kept in
    record {
      answer = λ clean requests h _.
          let cleaned = kept.setting.clean clean in
          let fresh = c.in_ok-answer.ensures.new cleaned requests h c.in-None.is in
          subst (λ n. IfOk c.keep.result (λ a. IsAnswerTo (take n requests) requests r a
          × HoldsRequests g.S.Store c.keep.new.self (with_request requests r))) looks.setting.old_style
          (kept.answer clean requests (looks.same cleaned requests h) fresh.0);
      err = λ clean requests h. kept.err clean requests (looks.same (kept.setting.clean clean) requests h);
      setting = record {
        clean = λ clean. looks.setting.clean (kept.setting.clean clean);
        limit = kept.setting.limit ∙ looks.setting.limit;
        old_style = kept.setting.old_style ∙ looks.setting.old_style;
      };
      stopped = kept.stopped ∙ looks.stopped;
      running = kept.running;
      crash = survives_then (shows g.S.Store c.args.self.now.store) (shows g.S.Store c.answer_repeat.new.self.store)
          (shows g.S.Store c.keep.new.self.store) _ _ _
          (λ clean trees none. absurd none)
          (λ clean trees left requests h _ _.
          let cleaned = kept.setting.clean clean in
          let fresh = c.in_ok-answer.ensures.new cleaned requests h c.in-None.is in
          subst (λ n. LeavesRegister n (with_request requests r) trees) looks.setting.old_style
          (left requests (looks.same cleaned requests h) fresh.1 fresh.0))
          looks.crash kept.crash;
    }

pub returns-in-None-clause-dated : goal.returns-in-None-clause-dated
returns-in-None-clause-dated g c =
    let r : Request = c.args.request.now in
    let m = c.args.moment.milliseconds in
    let looks = c.in_ok-answer.ensures.looks in
    let kept = c.keep.ensures.kept in
    let dated = c.keep.ensures.dated in
    record {
      dated = λ clean requests h moments had _.
          let cleaned = kept.setting.clean clean in
          dated.dated clean requests (looks.same cleaned requests h) moments
          (looks.moments.same cleaned requests h moments had)
          (c.in_ok-answer.ensures.new cleaned requests h c.in-None.is).0;
      same = λ clean requests h moments had.
          let cleaned = kept.setting.clean clean in
          dated.same clean requests (looks.same cleaned requests h) moments
          (looks.moments.same cleaned requests h moments had);
      crash = survives_then (shows g.S.Store c.args.self.now.store) (shows g.S.Store c.answer_repeat.new.self.store)
          (shows g.S.Store c.keep.new.self.store) _ _ _
          (λ clean trees none. absurd none)
          (λ clean trees left requests moments h had _ _.
          let cleaned = kept.setting.clean clean in
          let fresh = c.in_ok-answer.ensures.new cleaned requests h c.in-None.is in
          subst (λ n. LeavesReceived n (with_request requests r) (with_moment requests r m moments) trees)
          looks.setting.old_style
          (left requests moments (looks.same cleaned requests h) (looks.moments.same cleaned requests h moments had)
          fresh.1 fresh.0))
          looks.crash dated.crash;
      next = dated.next ∙ looks.moments.next;
    }

pub returns-in-None-clause-is_open : goal.returns-in-None-clause-is_open
returns-in-None-clause-is_open g c = λ clean requests h _.
    let cleaned = c.keep.ensures.kept.setting.clean clean in
    c.keep.ensures.is_open clean requests (c.in_ok-answer.ensures.looks.same cleaned requests h)
    (c.in_ok-answer.ensures.new cleaned requests h c.in-None.is).0

pub returns-in-None-clause-full : goal.returns-in-None-clause-full
returns-in-None-clause-full g c = λ clean requests h k e.
    let cleaned = c.keep.ensures.kept.setting.clean clean in
    let looks = c.in_ok-answer.ensures.looks in
    let full = c.keep.ensures.full requests (looks.same cleaned requests h) k e in (
      (c.in_ok-answer.ensures.new cleaned requests h c.in-None.is).0,
      subst (λ (limit : ℕ). limit ≤ k) looks.setting.limit full.0,
      full.1,
    )

-- ---- the database refused

pub returns-in_err-answer-clause-dated : goal.returns-in_err-answer-clause-dated
returns-in_err-answer-clause-dated g c = record {
  dated = λ clean requests h moments had _. search rules;
  same = λ clean requests h moments had.
      refused_so c.from_residual.result (c.answer_repeat.ensures.looks.moments.same clean requests h moments had);
  crash = survives_weaker (shows g.S.Store c.args.self.now.store) (shows g.S.Store c.answer_repeat.new.self.store) _ _
      (λ clean trees none. absurd none) c.answer_repeat.ensures.looks.crash;
  next = c.answer_repeat.ensures.looks.moments.next;
}
