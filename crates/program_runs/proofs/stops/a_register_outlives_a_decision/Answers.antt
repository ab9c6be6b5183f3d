use Rattle.intake_core.specs.Held.{with_request}
use Rattle.program_runs.proofs.Registering.{outlives_call}
use Rattle.program_runs.proofs.stops.a_register_outlives_a_decision.Goals as goal

pub returns : goal.returns
returns g c honest r old new result requests files decides is_open had ends =
    outlives_call g.D.Disk honest g.met.D.Disk.seen_may_stay old.store.conn new.store.conn old.store.old_style requests
    (with_request requests r) had.rows.stands is_open decides.crash
    (λ db commits. commits requests had) files ends
