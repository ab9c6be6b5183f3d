use Rattle.filing_world.proofs.Stepping.{before_changes_nothing}
use Rattle.filing_world.proofs.steps.hears_nothing_before_a_stop.Goals as goal

pub returns : goal.returns
returns c = before_changes_nothing
