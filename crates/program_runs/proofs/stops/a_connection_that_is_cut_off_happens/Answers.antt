use Rattle.program_runs.proofs.Killing.{cut}
use Rattle.program_runs.proofs.stops.a_connection_that_is_cut_off_happens.Goals as goal

pub returns : goal.returns
returns g c = cut g.D.Disk
