use Rattle.filing_model.proofs.StopAtZero.{before_0, after_0}
use Rattle.filing_model.proofs.laws.a_stop_at_0_is_one_at_1.Goals as goal

pub returns-clause-before : goal.returns-clause-before
returns-clause-before c = before_0

pub returns-clause-after : goal.returns-clause-after
returns-clause-after c = after_0
