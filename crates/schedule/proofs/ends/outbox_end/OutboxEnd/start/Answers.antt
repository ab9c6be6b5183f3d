use Rattle.std.proofs.Common.{◌≡◌, Some, Err, sym, subst, rules}
use Rattle.schedule.specs.OutboxEnd.{IsNotStartedBy, lying_in}
use Rattle.schedule.proofs.ends.outbox_end.OutboxEnd.start.Goals as goal

pub returns-in_err-open-clause-refused : goal.returns-in_err-open-clause-refused
returns-in_err-open-clause-refused g c =
    let told : c.from_residual.result ≡ Err c.in_err-open.field-0.0 = search rules in
    let up : c.args.self.now.process ≡ Some c.in-Some.process = search rules in
    rw told (subst (λ p. IsNotStartedBy p c.in_err-open.field-0.0) (sym up)
    (lying_in c.open.new.process.place, c.in_err-open.ensures.refused))
