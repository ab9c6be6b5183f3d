use Rattle.std.proofs.Common.{OnOk, Some, ap, inr, refl, rules, subst, sym, true}
use Rattle.std.specs.Prelude.{string_bytes}
use Rattle.std.specs.Io.KnownBytes.{Appends}
use Rattle.intake_process.specs.declared.tasks.errand.Question.TheVariants.{List}
use Rattle.intake_process.specs.Tasks.{AnswersQuestion}
use Rattle.intake_process.proofs.Errands.{answers, answers_failed, kept_store, reading_prints}
use Rattle.intake_process.proofs.tasks.dating.list_moments.Goals as goal

pub returns-in_err-text : goal.returns-in_err-text
returns-in_err-text g c =
    let out = g.O.Write.contents c.args.output.now in
    let new = c.moment_lines.new.store in
    subst (λ r. AnswersQuestion {X = Unit {0}} g.S.Store (List c.args.filer true) out out c.args.store.now new.conn r)
    (search rules)
    (answers_failed g.S.Store (List c.args.filer true) out out c.args.store.now new.conn
    (kept_store g.S.Store c.args.store.now new c.in_err-text.ensures.keeps) (λ _. tt) tt tt
    (λ clean F has moments dated. refl) c.in_err-text.field-0.0
    (reading_prints c.in_err-text.field-0.0 c.in_err-text.ensures.fails) (inr refl))

pub returns : goal.returns
returns g c =
    let out = g.O.Write.contents c.args.output.now in
    let out' = g.O.Write.contents c.print.new.output in
    let new = c.moment_lines.new.store in
    answers g.S.Store (List c.args.filer true) out out' c.args.store.now new.conn
    (kept_store g.S.Store c.args.store.now new c.in_ok-text.ensures.keeps) (string_bytes c.in_ok-text.text)
    (λ clean F has moments dated. ap Some (sym (c.in_ok-text.ensures.lines clean F has moments dated))) tt
    c.print.result
    (subst (λ text. OnOk c.print.result (Appends out out' text)) c.as_bytes.ensures.value c.print.ensures.printed)
    c.print.ensures.fault
