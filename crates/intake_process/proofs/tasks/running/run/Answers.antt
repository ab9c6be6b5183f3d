use Rattle.std.proofs.Common.{◌≡◌, [], ap, take, subst}
use Rattle.sqlite.proofs.Callers.{memory_is_clean}
use Rattle.http_wire.specs.Wire.{wire}
use Rattle.filing_model.specs.Serving.{keeping}
use Rattle.intake_core.specs.Held.{limit_of, old_style_in}
use Rattle.gateway_server.specs.Progress.{ServesConnection}
use Rattle.intake_process.proofs.tasks.running.run.Goals as goal

pub returns-clause-served : goal.returns-clause-served
returns-clause-served g c =
    let from = wire g.R.Source g.W.Sink c.args.reader.now c.args.writer.now in
    let to = wire g.R.Source g.W.Sink c.serve.new.reader c.serve.new.writer in
    let marks = c.serve.result.marks.items in
    let t = c.serve.ensures.serves (memory_is_clean c.serve.new.intake.store.conn) [] c.in_ok-intake.ensures.empty in
    let none : old_style_in c.in_ok-intake.intake [] ≡ [] = ap (λ n. take n []) c.in_ok-intake.ensures.problem in
    record {
      marks = marks;
      requests = t.0;
      serves =
          subst (λ limit. ServesConnection (keeping limit [] [] t.0) from to marks c.serve.result.ended)
          c.in_ok-intake.ensures.limit
          (subst (λ old_style. ServesConnection (keeping (limit_of c.in_ok-intake.intake) old_style [] t.0) from to
          marks c.serve.result.ended) none t.3);
      fault = c.serve.ensures.fault;
      texts = c.serve.ensures.texts;
    }
