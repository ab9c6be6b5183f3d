use Rattle.std.proofs.Common.{◌∷◌, ◌++◌, []}
use Rattle.outbox_core.specs.Entries.{opened}
use Rattle.outbox_core.specs.OutboxParts.{contents}
use Rattle.program_runs.proofs.Outboxing.{outlives_put}
use Rattle.program_runs.proofs.stops.an_outbox_outlives_an_entry.Goals as goal

pub returns : goal.returns
returns g c honest old new key target body result entries files puts is_open had ends =
    outlives_put g.D.Disk honest g.met.D.Disk.seen_may_stay old.conn new.conn (contents old entries)
    (contents old (entries ++ opened key target body ∷ [])) had.stands is_open puts.crash
    (λ db commits. commits entries had is_open) files ends
