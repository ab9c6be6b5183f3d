use Rattle.std.proofs.Common.{Ok, Err, refl}
use Rattle.intake_process.proofs.visiting.visit_place.Goals as goal

pub returns-in-Ok : goal.returns-in-Ok
returns-in-Ok g c = record {
  opened = Ok c.in-Ok.conn;
  between = g.P.Place.lying c.open.new.place;
  opens = c.in-Ok.ensures.opens;
  goes = (
    c.run_errand-left.result.0,
    c.run_errand-left.ensures.runs,
    c.run_errand-left.ensures.fills,
    c.leave-closed.ensures,
  );
}

pub returns-in-Err : goal.returns-in-Err
returns-in-Err g c = record {
  opened = Err c.in-Err.unopened;
  between = g.P.Place.lying c.open.new.place;
  opens = c.in-Err.ensures.opens;
  goes = (refl, refl, refl, refl, refl, refl);
}
