use Rattle.std.proofs.Common.{OnOk, Some, ap, inr, refl, rules, string_bytes, subst, sym, ◌∙◌}
use Rattle.std.specs.Prelude.{is_some, option_map}
use Rattle.std.specs.Io.KnownBytes.{Appends}
use Rattle.register_extracts.specs.declared.fault.Why.TheVariants as why
use Rattle.intake_process.specs.declared.tasks.errand.Question.TheVariants.{Show}
use Rattle.intake_process.specs.Showing.{shown_lines}
use Rattle.intake_process.specs.Tasks.{AnswersQuestion}
use Rattle.intake_process.proofs.Dating.{keeps_then, shown_as, shown_text}
use Rattle.intake_process.proofs.Errands.{answers, answers_failed, answers_not, kept_store, reading_prints}
use Rattle.intake_process.proofs.tasks.showing.show.Goals as goal

pub returns-in_err-text : goal.returns-in_err-text
returns-in_err-text g c =
    let out = g.O.Write.contents c.args.output.now in
    let old = c.args.store.now in
    let mid = c.facts.new.self in
    let new = c.shown_lines.new.store in
    subst (λ r. AnswersQuestion {X = Unit {0}} g.S.Store (Show c.args.number c.args.moments) out out old new.conn r)
    (search rules)
    (answers_failed g.S.Store (Show c.args.number c.args.moments) out out old new.conn
    (kept_store g.S.Store old new (keeps_then g.S.Store c.in_ok-facts.ensures.keeps c.in_err-text.ensures.keeps))
    (λ _. tt) tt tt
    (λ clean F has moments dated. ap is_some (shown_as g.S.Store c.args.number c.args.moments old mid new
    c.deref.result.now
    (λ clean F has. ap Some c.deref.ensures.value ∙ ap (option_map (λ list. list.items)) (sym c.in-Some.is)
    ∙ c.in_ok-facts.ensures.facts clean F has)
    c.in_ok-facts.ensures.keeps c.in_err-text.ensures.keeps clean F has moments dated)) c.in_err-text.field-0.0
    (reading_prints c.in_err-text.field-0.0 c.in_err-text.ensures.fails) (inr refl))

pub returns : goal.returns
returns g c =
    let out = g.O.Write.contents c.args.output.now in
    let out' = g.O.Write.contents c.print.new.output in
    let old = c.args.store.now in
    let mid = c.facts.new.self in
    let new = c.shown_lines.new.store in
    answers g.S.Store (Show c.args.number c.args.moments) out out' old new.conn
    (kept_store g.S.Store old new (keeps_then g.S.Store c.in_ok-facts.ensures.keeps c.in_ok-text.ensures.keeps))
    (string_bytes c.in_ok-text.text)
    (shown_text g.S.Store c.args.number c.args.moments old mid new c.deref.result.now
    (λ clean F has. ap Some c.deref.ensures.value ∙ ap (option_map (λ list. list.items)) (sym c.in-Some.is)
    ∙ c.in_ok-facts.ensures.facts clean F has)
    c.in_ok-facts.ensures.keeps c.in_ok-text.ensures.keeps (string_bytes c.in_ok-text.text)
    c.in_ok-text.ensures.lines) tt c.print.result
    (subst (λ text. OnOk c.print.result (Appends out out' text)) c.as_bytes.ensures.value c.print.ensures.printed)
    c.print.ensures.fault
