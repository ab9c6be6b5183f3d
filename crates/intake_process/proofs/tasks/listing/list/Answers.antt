use Rattle.std.proofs.Common.{OnOk, ap, false, inr, map, refl, rules, sym, subst, Some, ◌∙◌}
use Rattle.std.specs.Io.KnownBytes.{Appends}
use Rattle.filing_model.specs.Reply.{list_reply}
use Rattle.filing_model.specs.Views.{view_row}
use Rattle.register_extracts.specs.declared.fault.Why.TheVariants as why
use Rattle.intake_process.specs.Listing.{line}
use Rattle.intake_process.specs.declared.tasks.errand.Question.TheVariants.{List}
use Rattle.intake_process.specs.Tasks.{AnswersQuestion}
use Rattle.intake_process.proofs.Errands.{answers, answers_not, kept_store}
use Rattle.intake_process.proofs.tasks.listing.list.Goals as goal

pub returns-in-Err : goal.returns-in-Err
returns-in-Err g c =
    let out = g.O.Write.contents c.args.output.now in
    answers_not g.S.Store (List c.args.filer false) out out c.args.store.now c.filings.new.self.conn
    (kept_store g.S.Store c.args.store.now c.filings.new.self c.in-Err.ensures.keeps) (why.List c.in-Err.fault) refl tt
    (λ clean F has moments dated. tt) (inr refl)

pub returns-in_err-text : goal.returns-in_err-text
returns-in_err-text g c =
    let out = g.O.Write.contents c.args.output.now in
    let new = c.filings.new.self in
    subst (λ r. AnswersQuestion {X = Unit {0}} g.S.Store (List c.args.filer false) out out c.args.store.now new.conn r)
    (search rules)
    (answers_not g.S.Store (List c.args.filer false) out out c.args.store.now new.conn
    (kept_store g.S.Store c.args.store.now new c.in-Ok.ensures.keeps) why.Memory refl tt
    (λ clean F has moments dated. refl) (inr refl))

pub returns : goal.returns
returns g c =
    let out = g.O.Write.contents c.args.output.now in
    let out' = g.O.Write.contents c.print.new.output in
    answers g.S.Store (List c.args.filer false) out out' c.args.store.now c.filings.new.self.conn
    (kept_store g.S.Store c.args.store.now c.filings.new.self c.in-Ok.ensures.keeps) c.in_ok-text.text.items
    (λ clean F has moments dated. ap Some (sym (c.in_ok-text.ensures ∙ ap (λ rows. line (list_reply rows).content)
    (ap (map view_row) c.deref.ensures.value
    ∙ c.in-Ok.ensures.rows clean F has)))) tt c.print.result
    (subst (λ text. OnOk c.print.result (Appends out out' text)) c.deref-2.ensures.value c.print.ensures.printed)
    c.print.ensures.fault
