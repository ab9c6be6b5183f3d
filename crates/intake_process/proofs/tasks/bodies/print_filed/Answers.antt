use Rattle.std.proofs.Common.{Err, subst, sym}
use Rattle.intake_process.specs.Tasks.{AnswersQuestion}
use Rattle.intake_process.specs.declared.tasks.errand.Question.TheVariants.{FilingBody}
use Rattle.register_extracts.specs.declared.fault.Why.TheVariants.{NoFiling}
use Rattle.intake_process.proofs.Reports.{filed_missing, filed_placed}
use Rattle.intake_process.proofs.tasks.bodies.print_filed.Goals as goal

pub returns-in-Some : goal.returns-in-Some
returns-in-Some g c =
    let out = g.O.Write.contents c.args.output.now in
    let out' = g.O.Write.contents c.print_placed-done.new.output in
    let does = rw c.into_conn-conn.ensures at c.print_placed-done.ensures in
    filed_placed g.S.Store c.args.number out out' c.args.store c.in-Some.place c.in-Some.ensures
    c.print_placed-done.new.conn c.print_placed-done.result does.printed does.fails does.quiet does.leaves

pub returns-in-None : goal.returns-in-None
returns-in-None g c =
    let out = g.O.Write.contents c.args.output.now in
    subst (λ conn. AnswersQuestion g.S.Store (FilingBody c.args.number) out out c.args.store conn
    (Err (NoFiling c.args.number))) (sym c.into_conn.ensures)
    (filed_missing g.S.Store c.args.number out out c.args.store c.in-None.ensures)
