use Rattle.std.proofs.Common.{Option, subst, rules}
use Rattle.std.specs.Prelude.{IfSome}
use Rattle.filing_model.specs.declared.served.Ended.{Ended}
use Rattle.filing_model.specs.Serving.{keeping}
use Rattle.filing_model.specs.Stopping.{No}
use Rattle.intake_core.specs.Held.{limit_of, old_style_in}
use Rattle.http_wire.specs.Wire.{wire}
use Rattle.gateway_server.specs.Progress.{HasRead, IsReadToEnd}
use Rattle.gateway_server.specs.Stopping.{ServesConnectionUntil}
use Rattle.gateway_server.specs.Written.{WritesTexts}
use Rattle.gateway_server.proofs.Stopping.{ServesConnection-ended}
use Rattle.gateway_server.proofs.serving.serve.Goals as goal

pub returns : goal.returns
returns g c = record {
  serves = λ clean before h.
      let old = wire g.R.Source g.W.Sink c.args.reader.now c.args.writer.now in
      let new = wire g.R.Source g.W.Sink c.serve_until-partly.new.reader c.serve_until-partly.new.writer in
      let marks = c.serve_until-partly.result.marks.items in
      let served = c.serve_until-partly.ensures.serves clean before h in
      let requests = keeping (limit_of c.args.intake.now) (old_style_in c.args.intake.now before) before served.0 in
      let ended =
      subst (λ (how : Option Ended). ServesConnectionUntil requests old new No marks how) c.unwrap.ensures
      served.3 in
      (served.0, served.1, served.2, ServesConnection-ended requests old new No marks c.unwrap.result ended);
  setting = search rules;
  fault = search rules;
  read = subst (λ (how : Option Ended). IfSome how (HasRead
      (wire g.R.Source g.W.Sink c.args.reader.now c.args.writer.now)
      (wire g.R.Source g.W.Sink c.serve_until-partly.new.reader c.serve_until-partly.new.writer))) c.unwrap.ensures
      c.serve_until-partly.ensures.read;
  at_end = subst (λ (how : Option Ended). IfSome how (IsReadToEnd (g.R.Source.left c.serve_until-partly.new.reader)))
      c.unwrap.ensures c.serve_until-partly.ensures.at_end;
  texts = subst (λ (how : Option Ended). WritesTexts (g.W.Sink.written c.args.writer.now)
      (g.W.Sink.written c.serve_until-partly.new.writer) how) c.unwrap.ensures c.serve_until-partly.ensures.texts;
}
