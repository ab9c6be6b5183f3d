use Rattle.filing_world.proofs.Stepping.{tells}
use Rattle.filing_world.proofs.steps.tells_what_came.Goals as goal

pub returns : goal.returns
returns c = tells
