use Rattle.std.proofs.Common.{Some, refl, sym, subst}
use Rattle.gateway_rounds.specs.Ports.{port}
use Rattle.intake_process.specs.Process.{AnswersPortBy}
use Rattle.intake_process.proofs.process.IntakeProcess.answer_port.Goals as goal

pub returns-in-Some : goal.returns-in-Some
returns-in-Some g c = (
  subst (λ i. AnswersPortBy g.T.Stream (port g.K.Sockets.traffic c.args.port.now)
      (port g.K.Sockets.traffic c.answer_by-by.new.port) i (Some c.answer_by-by.new.intake) c.answer_by-by.result)
      (sym c.in-Some.is) (
        c.answer_by-by.new.intake,
        refl,
        c.answer_by-by.ensures.answers,
        c.answer_by-by.ensures.failed,
        c.answer_by-by.ensures.other,
      ),
  refl,
  refl,
  c.refused_with-self.ensures,
)
