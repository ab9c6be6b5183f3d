use Rattle.database_places.proofs.Visits.{opens, refuses}
use Rattle.database_places.proofs.opening.make.Goals as goal

pub returns-in-Ok-clause-opens : goal.returns-in-Ok-clause-opens
returns-in-Ok-clause-opens g c =
    opens g.D.Disk (g.P.Place.lying c.args.place.now) (g.P.Place.lying c.take.new.self) c.in_ok-files.files c.in-Ok.conn
    c.in_ok-files.ensures.taken c.in-Ok.ensures.opened c.in-Ok.ensures.found

pub returns-in-Err-clause-opens : goal.returns-in-Err-clause-opens
returns-in-Err-clause-opens g c =
    refuses g.D.Disk (g.P.Place.lying c.args.place.now) (g.P.Place.lying c.take.new.self)
    (g.P.Place.lying c.leave.new.self) (g.P.Place.lying c.remove_new_log.new.place) c.in_ok-files.files
    c.into_files.result c.fault_of.result c.in_ok-files.ensures.taken c.leave.ensures.left c.remove_new_log.ensures
    (record {
      error = c.in-Err.error;
      told = c.fault_of.ensures.told;
      left = c.in-Err.left;
      same =
          c.into_files.ensures;
      failed = c.in-Err.ensures.cause;
      unharmed = c.in-Err.ensures.unharmed;
    })
    c.fault_of.ensures.there
