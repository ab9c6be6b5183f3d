use Rattle.std.proofs.Common.{IfOk, subst, sym, ◌∙◌}
use Rattle.outbox_tables.specs.Entries.{contents_of}
use Rattle.outbox_process.specs.Process.{KeepsBy}
use Rattle.schedule.specs.OutboxEnd.{lying_in}
use Rattle.schedule.specs.Outboxes.{up_with}
use Rattle.schedule.proofs.ends.outboxes.ask_process.Goals as goal

pub returns-in-Some-clause-answer : goal.returns-in-Some-clause-answer
returns-in-Some-clause-answer g c = λ filer entries keeps.
    let kept =
    subst (λ o. KeepsBy {g = g.D.Disk} o (lying_in c.args.process.now.place) (contents_of filer entries))
    (sym c.in-Some.ensures.value) keeps.1 in
    subst (λ code. IfOk c.on.result (g.C.Call.answers c.args.call (up_with code entries))) kept.0.1
    (c.on.ensures.answer entries kept.0.0)

pub returns-in-Some-clause-kept : goal.returns-in-Some-clause-kept
returns-in-Some-clause-kept g c = λ filer entries keeps.
    let kept =
    subst (λ o. KeepsBy {g = g.D.Disk} o (lying_in c.args.process.now.place) (contents_of filer entries))
    (sym c.in-Some.ensures.value) keeps.1 in
    (keeps.0, ((c.on.ensures.rows entries kept.0.0, c.on.ensures.filer ∙ kept.0.1), kept.1))
