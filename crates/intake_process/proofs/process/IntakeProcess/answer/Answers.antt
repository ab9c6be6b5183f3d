use Rattle.std.proofs.Common.{Some, refl, sym, subst}
use Rattle.http_wire.specs.Wire.{wire}
use Rattle.intake_process.specs.Process.{AnswersBy}
use Rattle.intake_process.proofs.process.IntakeProcess.answer.Goals as goal

pub returns-in-Some : goal.returns-in-Some
returns-in-Some g c = (
  subst (λ i. AnswersBy (wire g.R.Source g.W.Sink c.args.reader.now c.args.writer.now)
      (wire g.R.Source g.W.Sink c.serve_by-answered.new.reader c.serve_by-answered.new.writer) i
      (Some c.serve_by-answered.new.intake) c.serve_by-answered.result) (sym c.in-Some.is)
      (c.serve_by-answered.new.intake, refl, c.serve_by-answered.ensures),
  refl,
  refl,
  c.refused_with-self.ensures,
)
