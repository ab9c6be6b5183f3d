use Rattle.program_runs.proofs.Killing.{killed}
use Rattle.program_runs.proofs.stops.a_killed_run_happens.Goals as goal

pub returns : goal.returns
returns g c = killed g.D.Disk
