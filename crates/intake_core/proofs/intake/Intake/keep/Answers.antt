use Rattle.std.proofs.Common.{rules, subst, ◌∙◌}
use Rattle.sqlite.proofs.StateLemmas.{survives_then}
use Rattle.register_tables.specs.Registers.{LeavesReceived, LeavesRegister}
use Rattle.intake_core.specs.Held.{shows, with_request}
use Rattle.intake_core.specs.Moments.{with_moment}
use Rattle.intake_core.proofs.intake.Intake.keep.Goals as goal

pub returns-clause-kept : goal.returns-clause-kept
returns-clause-kept g c = record {
  answer = search rules;
  err = search rules;
  setting = search rules;
  stopped = search rules;
  running = search rules;
  crash = survives_then (shows g.S.Store c.args.self.now) (shows g.S.Store c.is_free.new.self)
      (shows g.S.Store c.keep_judged.new.self) _ _ _
      (λ clean trees none. absurd none)
      (λ clean trees left requests h alive fresh.
      let cleaned = c.keep_judged.ensures.kept.setting.clean clean in
      let free = c.in_ok-free.ensures.tells.answer cleaned requests h in
      let still = c.in_ok-free.ensures.tells.is_open cleaned requests h alive in
      subst (λ n. LeavesRegister n (with_request requests c.args.request.now) trees)
      c.in_ok-free.ensures.tells.setting.old_style
      (left requests (c.in_ok-free.ensures.tells.same cleaned requests h) still (fresh, free)))
      c.is_free.ensures.tells.crash c.keep_judged.ensures.kept.crash;
}

pub returns-clause-dated : goal.returns-clause-dated
returns-clause-dated g c =
    let m = c.args.moment.milliseconds in
    let dated = c.keep_judged.ensures.dated in
    let tells = c.in_ok-free.ensures.tells in
    record {
      dated = λ clean requests h moments had fresh.
          let cleaned = c.keep_judged.ensures.kept.setting.clean clean in
          dated.dated clean requests (tells.same cleaned requests h) moments
          (c.in_ok-free.ensures.moments.same cleaned requests h moments had) (fresh, tells.answer cleaned requests h);
      same = λ clean requests h moments had.
          let cleaned = c.keep_judged.ensures.kept.setting.clean clean in
          dated.same clean requests (tells.same cleaned requests h) moments
          (c.in_ok-free.ensures.moments.same cleaned requests h moments had);
      crash = survives_then (shows g.S.Store c.args.self.now) (shows g.S.Store c.is_free.new.self)
          (shows g.S.Store c.keep_judged.new.self) _ _ _
          (λ clean trees none. absurd none)
          (λ clean trees left requests moments h had alive fresh.
          let cleaned = c.keep_judged.ensures.kept.setting.clean clean in
          let free = tells.answer cleaned requests h in
          let still = tells.is_open cleaned requests h alive in
          subst (λ n. LeavesReceived n (with_request requests c.args.request.now)
          (with_moment requests c.args.request.now m moments) trees)
          tells.setting.old_style
          (left requests moments (tells.same cleaned requests h)
          (c.in_ok-free.ensures.moments.same cleaned requests h moments had) still (fresh, free)))
          c.is_free.ensures.tells.crash dated.crash;
      next = dated.next ∙ c.in_ok-free.ensures.moments.next;
    }
