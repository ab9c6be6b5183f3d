use Rattle.filing_world.proofs.Remaining.{run_remains}
use Rattle.filing_world.proofs.an_entry_remains.Goals as goal

pub returns : goal.returns
returns c = run_remains
