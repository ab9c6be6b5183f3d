use Rattle.program_runs.proofs.Outboxing.{outlives_reading}
use Rattle.program_runs.proofs.stops.an_outbox_outlives_a_reading.Goals as goal

pub returns : goal.returns
returns g c honest old new it files is_open stands survives ends =
    outlives_reading g.D.Disk honest g.met.D.Disk.seen_may_stay old new it stands is_open survives files ends
