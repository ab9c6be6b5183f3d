use Rattle.std.proofs.Common.{refl, rules}
use Rattle.intake_core.proofs.Dating.{keeps_moments}
use Rattle.intake_core.proofs.intake.Intake.filing.Goals as goal

pub returns : goal.returns
returns g c = record {
  rows = search rules;
  kept = search rules;
  moments = keeps_moments c.args.self.now _ c.filing-result.ensures.keeps refl;
  setting = search rules;
  crash = search rules;
  durable = search rules;
  down = search rules;
  stops = search rules;
  up = search rules;
  room = search rules;
}

pub returns-in_err-result : goal.returns-in_err-result
returns-in_err-result g c = record {
  rows = search rules;
  kept = search rules;
  moments = keeps_moments c.args.self.now _ c.filing-result.ensures.keeps refl;
  setting = search rules;
  crash = search rules;
  durable = search rules;
  down = search rules;
  stops = search rules;
  up = search rules;
  room = search rules;
}
