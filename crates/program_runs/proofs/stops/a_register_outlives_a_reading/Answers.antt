use Rattle.program_runs.proofs.Registering.{outlives_reading}
use Rattle.program_runs.proofs.stops.a_register_outlives_a_reading.Goals as goal

pub returns : goal.returns
returns g c honest old new old_style requests files is_open stands survives ends =
    outlives_reading g.D.Disk honest g.met.D.Disk.seen_may_stay old new old_style requests stands is_open survives files
    ends
