use Rattle.std.proofs.Common.{refl}
use Rattle.intake_core.proofs.Dating.{keeps_moments}
use Rattle.intake_core.proofs.intake.Intake.is_free.Goals as goal

pub returns-in_ok-replaceable-in-Some-clause-moments : goal.returns-in_ok-replaceable-in-Some-clause-moments
returns-in_ok-replaceable-in-Some-clause-moments g c =
    keeps_moments c.args.self.now _ c.replaceable.ensures.keeps refl

pub returns-in_err-replaceable-in-Some-clause-moments : goal.returns-in_err-replaceable-in-Some-clause-moments
returns-in_err-replaceable-in-Some-clause-moments g c =
    keeps_moments c.args.self.now _ c.replaceable.ensures.keeps refl
