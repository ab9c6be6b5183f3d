use Rattle.outbox_core.specs.OutboxParts.{contents}
use Rattle.program_runs.proofs.Outboxing.{outlives_move}
use Rattle.program_runs.proofs.stops.an_outbox_outlives_a_move.Goals as goal

pub returns : goal.returns
returns g c honest old new id reply result entries files moves is_open had ends =
    outlives_move g.D.Disk honest g.met.D.Disk.seen_may_stay old.conn new.conn (contents old entries) id reply
    had.stands is_open moves.crash (λ db commits. commits entries had is_open) files ends
