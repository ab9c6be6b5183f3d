use Rattle.std.proofs.Common.{◌∷◌, ◌++◌, []}
use Rattle.filing_model.specs.Views.{the_request}
use Rattle.program_runs.proofs.Registering.{outlives_call}
use Rattle.program_runs.proofs.stops.a_register_outlives_an_addition.Goals as goal

pub returns : goal.returns
returns g c honest row old new result requests files adds is_open had ends new_key judged =
    outlives_call g.D.Disk honest g.met.D.Disk.seen_may_stay old.conn new.conn old.old_style requests
    (requests ++ the_request row.filer.now row.key.now row.target row.body.now ∷ []) had.stands is_open adds.crash
    (λ db commits. commits requests had is_open new_key judged) files ends
