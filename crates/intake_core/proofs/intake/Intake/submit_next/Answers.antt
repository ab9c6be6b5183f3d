use Rattle.std.proofs.Common.{◌≡◌, List, take, length, sym, subst, ◌∙◌, arith}
use Rattle.std.proofs.Math.Seq.{take-length}
use Rattle.std.proofs.lemmas.List.{take_all, take-map}
use Rattle.filing_model.specs.Request.{Request}
use Rattle.register_rows.specs.declared.moment.Moment.{Moment}
use Rattle.intake_core.specs.declared.intake.group.Together.TheVariants.{Kept, Alone, Failed}
use Rattle.intake_core.specs.Together.{AddsResults, AnswersGroup, KeepsFirst, in_milliseconds}
use Rattle.intake_core.proofs.Dating.{length_milliseconds}
use Rattle.intake_core.specs.Looked.{AreNewIf, WasOpen}
use Rattle.intake_core.proofs.Group.{adds_if}
use Rattle.intake_core.proofs.Together.{together_alone, together_failed, together_kept}
use Rattle.intake_core.proofs.intake.Intake.submit_next.Goals as goal
use Rattle.std.proofs.Common.{rules}

pub returns-then-self : goal.returns-then-self
returns-then-self g c =
    let all = c.args.requests.now in
    let ms = in_milliseconds c.args.moments.now in
    let whole : take (length all) ms ≡ ms =
    take_all (length all) ms (omega (arith, length_milliseconds c.args.moments.now, c.requires.moments)) in (
      length all,
      c.requires.some,
      search rules,
      adds_if (WasOpen g.S.Store c.args.are_new c.args.self.now) (AreNewIf c.args.are_new all)
          (subst (λ (rs : List Request). AddsResults g.S.Store rs (take (length all) ms) c.args.self.now
          c.submit_each.new.self c.args.results.now c.submit_each.new.results) (sym (take-length all))
          (subst (λ ms. AddsResults g.S.Store all ms c.args.self.now c.submit_each.new.self c.args.results.now
          c.submit_each.new.results) (sym whole) c.submit_each.ensures)),
    )

pub returns-in-Kept : goal.returns-in-Kept
returns-in-Kept g c =
    let all = c.args.requests.now in
    let count = length c.in-Kept.outcomes.items in
    let ms = in_milliseconds c.args.moments.now in
    let long_ms : length ms ≡ length all = length_milliseconds c.args.moments.now ∙ c.requires.moments in
    let keeps : KeepsFirst g.S.Store (WasOpen g.S.Store c.args.are_new c.args.self.now)
    (AreNewIf c.args.are_new all) all ms c.args.self.now c.keep_first.new.self (Kept c.in-Kept.outcomes) =
    rw c.in-Kept.is at c.keep_first.ensures in
    let many : c.len.result ≡ count = search rules in
    let answers : AnswersGroup g.S.Store (take count all) c.in-Kept.outcomes.items c.keep_first.new.self
    c.answer_group.new.self c.args.results.now c.answer_group.new.results = rw many at c.answer_group.ensures in (
      count,
      keeps.some.0,
      keeps.some.1,
      (together_kept all ms long_ms c.args.self.now c.keep_first.new.self c.answer_group.new.self
          c.args.results.now
          c.answer_group.new.results c.if-self.false
          (WasOpen g.S.Store c.args.are_new c.args.self.now) (AreNewIf c.args.are_new all) c.in-Kept.outcomes keeps
          answers),
    )

pub returns-in-Alone : goal.returns-in-Alone
returns-in-Alone g c =
    let all = c.args.requests.now in
    let count = c.in-Alone.count in
    let ms = in_milliseconds c.args.moments.now in
    let long_ms : length ms ≡ length all = length_milliseconds c.args.moments.now ∙ c.requires.moments in
    let keeps : KeepsFirst g.S.Store (WasOpen g.S.Store c.args.are_new c.args.self.now)
    (AreNewIf c.args.are_new all) all ms c.args.self.now c.keep_first.new.self (Alone count) =
    rw c.in-Alone.is at c.keep_first.ensures in (
      count,
      keeps.some.0,
      keeps.some.1,
      (together_alone all ms long_ms c.args.self.now c.keep_first.new.self c.submit_each-in-Alone.new.self
          c.args.results.now c.submit_each-in-Alone.new.results c.if-self.false
          (WasOpen g.S.Store c.args.are_new c.args.self.now) (AreNewIf c.args.are_new all) count
          keeps
          (subst (λ ms. AddsResults g.S.Store (take count all) ms c.keep_first.new.self c.submit_each-in-Alone.new.self
          c.args.results.now c.submit_each-in-Alone.new.results)
          (sym (take-map (λ (t : Moment). t.milliseconds) count c.args.moments.now)) c.submit_each-in-Alone.ensures)),
    )

pub returns-in-Failed : goal.returns-in-Failed
returns-in-Failed g c =
    let all = c.args.requests.now in
    let count = c.in-Failed.count in
    let ms = in_milliseconds c.args.moments.now in
    let long_ms : length ms ≡ length all = length_milliseconds c.args.moments.now ∙ c.requires.moments in
    let keeps : KeepsFirst g.S.Store (WasOpen g.S.Store c.args.are_new c.args.self.now)
    (AreNewIf c.args.are_new all) all ms c.args.self.now c.keep_first.new.self (Failed count) =
    rw c.in-Failed.is at c.keep_first.ensures in (
      count,
      keeps.some.0,
      keeps.some.1,
      (together_failed all ms long_ms c.args.self.now c.keep_first.new.self c.refuse_group.new.self
          c.args.results.now
          c.refuse_group.new.results c.if-self.false
          (WasOpen g.S.Store c.args.are_new c.args.self.now) (AreNewIf c.args.are_new all) count keeps
          c.refuse_group.ensures),
    )
