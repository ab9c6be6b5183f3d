use Rattle.program_runs.proofs.Grouping.{outlives_group}
use Rattle.program_runs.proofs.stops.a_register_outlives_a_group.Goals as goal

pub returns : goal.returns
returns g c honest are_new asked decided old new requests files decides are is_open had ends =
    outlives_group g.D.Disk honest g.met.D.Disk.seen_may_stay old.store.conn new.store.conn old.store.old_style requests
    decided had.firsts' had.rows.stands is_open decides.crash
    (λ db commits. commits requests had (λ _. is_open) are) files ends
