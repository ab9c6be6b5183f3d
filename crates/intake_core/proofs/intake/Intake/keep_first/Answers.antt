use Rattle.std.proofs.Common.{◌≡◌, ◌<◌, Ok, Err, length, take, refl, sym, subst, ◌∙◌, rules, arith}
use Rattle.std.proofs.lemmas.List.{take-map}
use Rattle.register_rows.specs.declared.moment.Moment.{Moment}
use Rattle.intake_core.specs.declared.intake.group.Together.TheVariants.{Alone, Failed}
use Rattle.intake_core.specs.Looked.{AreNewIf, WasOpen}
use Rattle.intake_core.specs.Together.{AddsGroup, in_milliseconds}
use Rattle.intake_core.proofs.Dating.{length_milliseconds}
use Rattle.intake_core.proofs.Together.{first_kept, first_refused}
use Rattle.intake_core.proofs.intake.Intake.keep_first.Goals as goal

pub returns-in-Err-Memory : goal.returns-in-Err-Memory
returns-in-Err-Memory g c =
    let many : c.len-count.result ≡ length c.in-Ok.judged.items = search rules in
    let some : 0 < c.len-count.result = search rules in
    (first_refused (WasOpen g.S.Store c.args.are_new c.args.self.now)
    (AreNewIf c.args.are_new c.args.requests.now) c.args.requests.now (in_milliseconds c.args.moments.now)
    (length_milliseconds c.args.moments.now ∙ c.requires.moments) (Alone c.len-count.result) c.len-count.result refl
    (λ P p. p) (λ P. tt) some (omega (arith, many, c.in-Ok.ensures.few)) c.args.self.now
    c.judge_group.new.self c.keep_group.new.self
    c.judge_group.ensures.looks
    (λ clean F h holds. rw many (c.in-Ok.ensures.new clean F h holds (omega (arith, many, some))))
    (subst (λ ms. AddsGroup g.S.Store (take c.len-count.result c.args.requests.now) ms c.judge_group.new.self
    c.keep_group.new.self (Err c.in-Err-Memory.field-0))
    (sym (take-map (λ (t : Moment). t.milliseconds) c.len-count.result c.args.moments.now))
    (rw c.in-Err-Memory.is at c.keep_group.ensures)))

pub returns : goal.returns
returns g c =
    let many : c.len-count.result ≡ length c.in-Ok.judged.items = search rules in
    let some : 0 < c.len-count.result = search rules in
    (first_refused (WasOpen g.S.Store c.args.are_new c.args.self.now)
    (AreNewIf c.args.are_new c.args.requests.now) c.args.requests.now (in_milliseconds c.args.moments.now)
    (length_milliseconds c.args.moments.now ∙ c.requires.moments) (Failed c.len-count.result) c.len-count.result refl
    (λ P p. p) (λ P. tt) some (omega (arith, many, c.in-Ok.ensures.few)) c.args.self.now
    c.judge_group.new.self c.keep_group.new.self
    c.judge_group.ensures.looks
    (λ clean F h holds. rw many (c.in-Ok.ensures.new clean F h holds (omega (arith, many, some))))
    (subst (λ ms. AddsGroup g.S.Store (take c.len-count.result c.args.requests.now) ms c.judge_group.new.self
    c.keep_group.new.self (Err c.in-Err-Store.field-0))
    (sym (take-map (λ (t : Moment). t.milliseconds) c.len-count.result c.args.moments.now))
    (rw c.in-Err-Store.is at c.keep_group.ensures)))

pub returns-in-Ok-keep_group : goal.returns-in-Ok-keep_group
returns-in-Ok-keep_group g c =
    let all = c.args.requests.now in
    let moments = c.args.moments.now in
    let outcomes = c.in-Ok-keep_group.outcomes in
    let count = c.len-count.result in
    let many : count ≡ length c.in-Ok.judged.items = search rules in
    let some : 0 < count = search rules in
    let adds : AddsGroup g.S.Store (take count all) (in_milliseconds (take count moments)) c.judge_group.new.self
    c.keep_group.new.self (Ok outcomes) = rw c.in-Ok-keep_group.is at c.keep_group.ensures in
    (first_kept (WasOpen g.S.Store c.args.are_new c.args.self.now) (AreNewIf c.args.are_new all) all
    (in_milliseconds moments)
    (length_milliseconds moments ∙ c.requires.moments) outcomes count some
    (omega (arith, many, c.in-Ok.ensures.few)) c.args.self.now
    c.judge_group.new.self c.keep_group.new.self c.judge_group.ensures.looks
    (λ clean F h holds. rw many (c.in-Ok.ensures.new clean F h holds (omega (arith, many, some))))
    (rw many (c.in-Ok.ensures.limit (omega (arith, many, some))))
    (subst (λ ms. AddsGroup g.S.Store (take count all) ms c.judge_group.new.self c.keep_group.new.self (Ok outcomes))
    (sym (take-map (λ (t : Moment). t.milliseconds) count moments)) adds))
