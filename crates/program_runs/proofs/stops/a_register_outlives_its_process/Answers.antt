use Rattle.program_runs.proofs.Registering.{leaves_register, rests}
use Rattle.program_runs.proofs.stops.a_register_outlives_its_process.Goals as goal

pub returns-clause-rest : goal.returns-clause-rest
returns-clause-rest g c honest store requests files is_open had ends =
    let stays =
    g.met.D.Disk.seen_may_stay in
    leaves_register g.D.Disk honest stays store.conn files store.old_style requests ends
    (rests g.D.Disk honest stays store.conn store.old_style requests had.stands is_open)

pub returns-clause-durable : goal.returns-clause-durable
returns-clause-durable g c honest store old_style requests files durable ends =
    leaves_register g.D.Disk honest g.met.D.Disk.seen_may_stay store.conn files old_style requests ends durable.1
