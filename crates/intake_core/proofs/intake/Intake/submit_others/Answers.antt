use Rattle.std.proofs.Common.{◌≡◌, ◌+◌, ◌-◌, take, drop, length, vec_len, subst, sym, ap, ◌∙◌, arith}
use Rattle.std.proofs.Common.{true≢false}
use Rattle.std.proofs.lemmas.List.{drop-map, length-drop, take_all}
use Rattle.std.proofs.lemmas.Slice.{between_to_end}
use Rattle.register_rows.specs.declared.moment.Moment.{Moment}
use Rattle.intake_core.specs.Together.{AddsResults, in_milliseconds}
use Rattle.intake_core.proofs.Dating.{length_milliseconds}
use Rattle.intake_core.proofs.Group.{adds_next, adds_none, adds_weaker}
use Rattle.intake_core.proofs.intake.Intake.submit_others.Goals as goal
use Rattle.intake_core.proofs.intake.Intake.submit_others.Goals.{then-at-len, else-at-len}

pub loop-at-init : goal.loop-at-init
loop-at-init g c =
    let none : vec_len c.args.results.now - c.len-start.result ≡ 0 = omega (arith, c.len-start.ensures) in
    record {
      adds = rw none (adds_none c.args.self.now c.args.results.now);
      begun = omega (arith, c.len-start.ensures);
      past = omega (arith, none);
      within = omega (arith, none);
    }

pub loop-at-preserved : goal.loop-at-preserved
loop-at-preserved g c =
    let all = c.args.requests.now in
    let ms = in_milliseconds c.args.moments.now in
    let long_ms : length ms ≡ length all = length_milliseconds c.args.moments.now ∙ c.requires.moments in
    let at = c.loop-at.at in
    let start = c.len-start.result in
    let held = c.loop-at.invariant in
    elim c.if-at-len.branch [
      | then-at-len w ↦
          let next = w.submit_next.ensures in
          let adds = adds_weaker (λ _ is. absurd (true≢false (sym is))) (λ F _ is. absurd (true≢false (sym is)))
          next.3 in
          let here : vec_len c.loop-at.results - start ≡ at = omega (arith, w.if-at-len.true, c.len.ensures) in
          let before : AddsResults g.S.Store (take at all) (take at ms) c.args.self.now c.loop-at.self
          c.args.results.now c.loop-at.results =
          subst (λ n. AddsResults g.S.Store (take n all) (take n ms) c.args.self.now c.loop-at.self
          c.args.results.now c.loop-at.results) here held.adds in
          let rest : drop at ms ≡ in_milliseconds (drop at c.args.moments.now) =
          drop-map (λ (t : Moment). t.milliseconds) at c.args.moments.now in
          let done =
          adds_next all ms at next.0 c.args.self.now c.loop-at.self w.submit_next.new.self c.args.results.now
          c.loop-at.results w.submit_next.new.results long_ms before adds next.2
          (between_to_end all at (length all) (omega arith))
          (ap in_milliseconds (between_to_end c.args.moments.now at (length c.args.moments.now) (omega arith))
          ∙ sym rest) (omega (arith, c.loop-at-test.true)) in
          let more : at + next.0 ≡ vec_len w.submit_next.new.results - start =
          omega (arith, done.0, here, held.begun) in
          rw (w.self-is, w.results-is) (record {
            adds = subst (λ n. AddsResults g.S.Store (take n all) (take n ms) c.args.self.now w.submit_next.new.self
                c.args.results.now w.submit_next.new.results) more done.1;
            begun = omega (arith, done.0, held.begun);
            past = omega (arith, more, next.1);
            within = omega (arith, more, next.2, length-drop at all, c.loop-at-test.true);
          })
      | else-at-len w ↦ rw (w.self-is, w.results-is) (record {
        adds = held.adds;
        begun = held.begun;
        past = omega (arith, held.past, w.if-at-len.false, c.len.ensures);
        within = held.within;
      })
    ]

pub returns : goal.returns
returns g c =
    let all = c.args.requests.now in
    let ms = in_milliseconds c.args.moments.now in
    let held = c.loop-at.invariant in
    let many = vec_len c.loop-at.results - c.len-start.result in
    subst (λ rs. AddsResults g.S.Store rs ms c.args.self.now c.loop-at.self c.args.results.now c.loop-at.results)
    (take_all many all (omega (arith, held.past, c.loop-at-test.false)))
    (subst (λ ms. AddsResults g.S.Store (take many all) ms c.args.self.now c.loop-at.self c.args.results.now
    c.loop-at.results)
    (take_all many ms (omega (
      arith,
      held.past,
      c.loop-at-test.false,
      length_milliseconds c.args.moments.now,
      c.requires.moments,
    ))) held.adds)
