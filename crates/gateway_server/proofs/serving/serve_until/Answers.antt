use Rattle.filing_model.specs.declared.served.Ended.TheVariants.{Fault}
use Rattle.http_messages.specs.declared.refusal.ConnFault.TheVariants.{Memory}
use Rattle.std.proofs.Common.{Some, [], length, refl, sym, subst, rules}
use Rattle.std.proofs.KnownBytes.{Consumes-nil}
use Rattle.filing_model.specs.Serving.{keeping}
use Rattle.filing_model.specs.Stopping.{ComeBefore}
use Rattle.intake_core.specs.Held.{limit_of, old_style_in}
use Rattle.http_wire.specs.Wire.{wire}
use Rattle.gateway_server.specs.Stopping.{IsCountUntil, view_stop}
use Rattle.gateway_server.proofs.Continuing.{GoesOn-new, Serves-none}
use Rattle.gateway_server.proofs.Ending.{has_read, told_at_end}
use Rattle.gateway_server.proofs.Stopping.{ComeBefore-none, ServesConnectionUntil-either}
use Rattle.gateway_server.proofs.Written.{WritesTexts-same}
use Rattle.gateway_server.proofs.serving.serve_until.Goals as goal

pub returns-in-Ok : goal.returns-in-Ok
returns-in-Ok g c = record {
  serves = λ clean before h.
      let old = wire g.R.Source g.W.Sink c.args.reader.now c.args.writer.now in
      let new = wire g.R.Source g.W.Sink c.serve_arrivals-ended.new.reader c.serve_arrivals-ended.new.writer in
      let served = c.serve_arrivals-ended.ensures.serves clean before h in
      let requests = keeping (limit_of c.args.intake.now) (old_style_in c.args.intake.now before) before served.0 in
      let came =
      served.3 before old (GoesOn-new (limit_of c.args.intake.now) (old_style_in c.args.intake.now before) before
      old c.in-Ok.inbox c.new-marks.result.items c.in-Ok.ensures c.new-marks.ensures.items) in (
        served.0,
        served.1,
        served.2,
        ServesConnectionUntil-either requests old new (view_stop c.args.stop) c.serve_arrivals-ended.new.marks.items
            c.serve_arrivals-ended.result
            (subst (λ n. IsCountUntil (view_stop c.args.stop) n c.serve_arrivals-ended.result)
            c.serve_arrivals-ended.new.marks.ok.0 c.serve_arrivals-ended.ensures.counted) came,
      );
  setting = search rules;
  fault = search rules;
  read = has_read (wire g.R.Source g.W.Sink c.args.reader.now c.args.writer.now)
      (wire g.R.Source g.W.Sink c.serve_arrivals-ended.new.reader c.serve_arrivals-ended.new.writer) c.in-Ok.inbox
      c.serve_arrivals-ended.new.inbox c.serve_arrivals-ended.result c.in-Ok.ensures.count
      c.serve_arrivals-ended.ensures.read c.serve_arrivals-ended.ensures.told;
  at_end =
      told_at_end c.serve_arrivals-ended.new.inbox (g.R.Source.left c.serve_arrivals-ended.new.reader)
      c.serve_arrivals-ended.result c.serve_arrivals-ended.ensures.told;
  texts = c.serve_arrivals-ended.ensures.texts;
  counted = search rules;
  never = search rules;
}

pub returns-in-Err : goal.returns-in-Err
returns-in-Err g c = record {
  serves = λ clean before h.
      let old = wire g.R.Source g.W.Sink c.args.reader.now c.args.writer.now in
      let requests = keeping (limit_of c.args.intake.now) (old_style_in c.args.intake.now before) before before in (
        before,
        h,
        refl,
        ServesConnectionUntil-either requests old old (view_stop c.args.stop) c.new-marks.result.items
            (Some (Fault Memory))
            (subst (λ ms. ComeBefore (view_stop c.args.stop) (length ms)) (sym c.new-marks.ensures.items)
            (ComeBefore-none (view_stop c.args.stop))) (Serves-none (limit_of c.args.intake.now)
            (old_style_in c.args.intake.now before) before old c.new-marks.result.items c.new-marks.ensures.items),
      );
  setting = search rules;
  fault = search rules;
  read = ([], Consumes-nil (g.R.Source.left c.args.reader.now), λ e. absurd (cc));
  at_end = λ e. absurd (cc);
  texts = WritesTexts-same (g.W.Sink.written c.args.writer.now) (Some (Fault Memory)) refl;
  counted = search rules;
  never = search rules;
}
