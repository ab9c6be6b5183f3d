use Rattle.std.proofs.Common.{IsTrue, subst}
use Rattle.database_places.proofs.Leaving.{store_is_clean}
use Rattle.program_runs.proofs.stops.each_connection_is_numbered.Goals as goal

pub returns : goal.returns
returns g c honest =
    subst IsTrue c.into_store.ensures.undone.numbered
    (c.into_store.ensures.numbered (store_is_clean honest c.into_store.result))
