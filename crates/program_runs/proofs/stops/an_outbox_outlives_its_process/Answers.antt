use Rattle.program_runs.proofs.Outboxing.{leaves_outbox, rests}
use Rattle.outbox_core.specs.OutboxParts.{contents}
use Rattle.program_runs.proofs.stops.an_outbox_outlives_its_process.Goals as goal

pub returns-clause-rest : goal.returns-clause-rest
returns-clause-rest g c honest box entries files is_open had ends =
    let stays =
    g.met.D.Disk.seen_may_stay in
    leaves_outbox g.D.Disk honest stays box.conn files (contents box entries) ends
    (rests g.D.Disk honest stays box.conn (contents box entries) had.stands is_open)

pub returns-clause-durable : goal.returns-clause-durable
returns-clause-durable g c honest box it files durable ends =
    leaves_outbox g.D.Disk honest g.met.D.Disk.seen_may_stay box.conn files it ends durable.1
