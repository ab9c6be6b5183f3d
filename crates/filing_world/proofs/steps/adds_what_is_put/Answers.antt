use Rattle.filing_world.proofs.Stepping.{put_adds}
use Rattle.filing_world.proofs.steps.adds_what_is_put.Goals as goal

pub returns : goal.returns
returns c = put_adds
