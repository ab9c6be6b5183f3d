use Rattle.program_runs.proofs.Killing.{begins}
use Rattle.program_runs.proofs.stops.an_intake_begins_with_them.Goals as goal

pub returns : goal.returns
returns g c = begins g.D.Disk
