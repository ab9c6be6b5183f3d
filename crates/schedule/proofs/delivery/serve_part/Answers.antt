use Rattle.std.proofs.Common.{Some, [], subst, sym, ◌∙◌}
use Rattle.http_wire.specs.Wire.{wire}
use Rattle.filing_model.specs.Serving.{keeping}
use Rattle.filing_model.specs.Stopping.{No}
use Rattle.gateway_server.specs.Stopping.{ServesConnectionUntil, IsEndedOrStoppedBy}
use Rattle.schedule.specs.OutboxEnd.{lying_in}
use Rattle.schedule.proofs.Serving.{answers, still_up}
use Rattle.schedule.proofs.delivery.serve_part.Goals as goal

pub returns-in-Never-clause-serves : goal.returns-in-Never-clause-serves
returns-in-Never-clause-serves g c = λ limit before keeps up.
    let from = wire g.R.Source g.W.Sink c.args.reader.now c.args.writer.now in
    let to = wire g.R.Source g.W.Sink c.answer.new.reader c.answer.new.writer in
    let old = c.args.process.now in
    let new = c.answer.new.self in
    let part =
    answers g.met.D.Honest.honest limit from to old.intake new.intake (lying_in old.place) (lying_in new.place)
    before c.answer.result up c.answer.ensures.1 keeps.1 c.answer.ensures.0 in
    let marked =
    subst (λ marks. ServesConnectionUntil (keeping limit [] before part.0) from to No marks.items
    (Some c.answer.result.served.ended)) (sym c.whole.ensures.marks) part.2 in
    let served =
    subst (λ ended. ServesConnectionUntil (keeping limit [] before part.0) from to No c.whole.result.marks.items
    ended) (sym c.whole.ensures.ended) marked in
    rw c.in-Never.is (record {
      after = part.0;
      keeps = (c.answer.ensures.2 ∙ keeps.0, part.1);
      serves = served;
      fault =
          subst (λ ended. IsEndedOrStoppedBy from to ended) (sym c.whole.ensures.ended) part.3;
    })

pub returns-in-Never-clause-up : goal.returns-in-Never-clause-up
returns-in-Never-clause-up g c =
    still_up (wire g.R.Source g.W.Sink c.args.reader.now c.args.writer.now)
    (wire g.R.Source g.W.Sink c.answer.new.reader c.answer.new.writer) c.args.process.now.intake
    c.answer.new.self.intake c.answer.result c.answer.ensures.0
