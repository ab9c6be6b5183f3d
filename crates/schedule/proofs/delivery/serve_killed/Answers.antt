use Rattle.std.proofs.Common.{sym, subst}
use Rattle.http_wire.specs.Wire.{wire}
use Rattle.intake_process.specs.Process.{KeepsBy}
use Rattle.schedule.specs.OutboxEnd.{lying_in}
use Rattle.schedule.proofs.Serving.{killed}
use Rattle.schedule.proofs.delivery.serve_killed.Goals as goal

pub returns-in-Some-clause-serves : goal.returns-in-Some-clause-serves
returns-in-Some-clause-serves g c = λ limit before keeps up.
    let process = c.args.process.now in
    let kept =
    subst (λ i. KeepsBy {g = g.D.Disk} i (lying_in process.place) limit 0 before) (sym c.in-Some.ensures.value)
    keeps.1 in
    let part =
    killed g.met.D.Honest.honest limit (wire g.R.Source g.W.Sink c.args.reader.now c.args.writer.now)
    (wire g.R.Source g.W.Sink c.serve_until.new.reader c.serve_until.new.writer) c.in-Some.intake.now
    c.serve_until.new.intake before c.args.stop c.serve_until.result kept.0 c.serve_until.ensures in
    record { after = part.0; keeps = (keeps.0, (part.1, kept.1)); serves = part.2; fault = part.3 }
