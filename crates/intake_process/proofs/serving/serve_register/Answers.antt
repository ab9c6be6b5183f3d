use Rattle.std.proofs.Common.{None, Some, refl, sym, subst}
use Rattle.database_places.specs.Opening.{is_found}
use Rattle.gateway_rounds.specs.Ports.{port}
use Rattle.intake_process.specs.Process.{parts}
use Rattle.intake_process.specs.History.{Passes}
use Rattle.intake_process.proofs.Turns.{between, same, not_opened, while_open}
use Rattle.intake_process.proofs.Up.{until}
use Rattle.intake_process.proofs.serving.serve_register.Goals as goal

pub returns-in-Err : goal.returns-in-Err
returns-in-Err g c =
    let old = parts g.P.Place.lying c.args.process.now in
    let new = parts g.P.Place.lying c.open.new.self in
    record {
      found = λ honest is. not_opened g.T.Stream c.args.limit (port g.K.Sockets.traffic c.args.port.now) old new
          c.in-Err.ensures.calls (c.in-Err.ensures.leaves honest is);
      made = λ honest is closed known. tt;
      closed = c.in-Err.ensures.refused;
      steps = (c.in-Err.ensures, refl, refl);
    }

pub returns-in-Ok-served : goal.returns-in-Ok-served
returns-in-Ok-served g c =
    let has = is_found c.args.opening in
    let from = port g.K.Sockets.traffic c.args.port.now in
    let to = port g.K.Sockets.traffic c.listen_and_serve-served.new.port in
    let old = parts g.P.Place.lying c.args.process.now in
    let opened = parts g.P.Place.lying c.open.new.self in
    let served = parts g.P.Place.lying c.listen_and_serve-served.new.process in
    let new = parts g.P.Place.lying c.close.new.self in
    record {
      found = λ honest is. between g.T.Stream c.args.limit from to old opened served new
          (while_open g.T.Stream c.args.limit has old opened served new c.in-Ok.totals c.close.result c.in-Ok.ensures
          c.close.ensures) (c.in-Ok.ensures.leaves honest is) (c.in-Ok-served.ensures.answers honest)
          (c.close.ensures.leaves honest c.args.limit);
      made = λ honest is closed known. (
        opened,
        c.in-Ok.ensures.made honest is closed known,
        between g.T.Stream c.args.limit from to opened opened served new
            (until opened served new c.close.ensures.calls) (same g.T.Stream c.args.limit opened)
            (c.in-Ok-served.ensures.answers honest) (c.close.ensures.leaves honest c.args.limit),
      );
      closed = c.close.ensures.is_closed;
      steps = record {
        totals = c.in-Ok.totals;
        opened = opened;
        last = served;
        closed = c.close.result;
        opens = c.in-Ok.ensures;
        answers = c.in-Ok-served.ensures.answers;
        ends = c.in-Ok-served.ensures.ends;
        shut = c.in-Ok-served.ensures.shut;
        asked = c.in-Ok-served.ensures.asked;
        bounds = c.listen_and_serve-served.ensures.bounds;
        passes = subst (λ noted. Passes g.T.Stream c.args.limit from to opened served
            (g.O.Observer.answers c.args.observer.now) noted (Some c.in-Ok-served.taken)) (sym c.closed.ensures)
            c.in-Ok-served.ensures.passes;
        stays = c.listen_and_serve-served.ensures.stays;
        closes = c.close.ensures;
      };
    }

pub returns-in-Err-served : goal.returns-in-Err-served
returns-in-Err-served g c =
    let has = is_found c.args.opening in
    let from = port g.K.Sockets.traffic c.args.port.now in
    let to = port g.K.Sockets.traffic c.listen_and_serve-served.new.port in
    let old = parts g.P.Place.lying c.args.process.now in
    let opened = parts g.P.Place.lying c.open.new.self in
    let served = parts g.P.Place.lying c.listen_and_serve-served.new.process in
    let new = parts g.P.Place.lying c.close.new.self in
    record {
      found = λ honest is. between g.T.Stream c.args.limit from to old opened served new
          (while_open g.T.Stream c.args.limit has old opened served new c.in-Ok.totals c.close.result c.in-Ok.ensures
          c.close.ensures) (c.in-Ok.ensures.leaves honest is) (c.in-Err-served.ensures.answers honest)
          (c.close.ensures.leaves honest c.args.limit);
      made = λ honest is closed known. tt;
      closed = c.close.ensures.is_closed;
      steps = record {
        totals = c.in-Ok.totals;
        opened = opened;
        last = served;
        closed = c.close.result;
        opens = c.in-Ok.ensures;
        answers = c.in-Err-served.ensures.answers;
        ends = tt;
        shut = λ shut. tt;
        asked = tt;
        bounds = c.listen_and_serve-served.ensures.bounds;
        passes = subst (λ noted. Passes g.T.Stream c.args.limit from to opened served
            (g.O.Observer.answers c.args.observer.now) noted None) (sym c.closed.ensures)
            c.in-Err-served.ensures.passes;
        stays = c.listen_and_serve-served.ensures.stays;
        closes = c.close.ensures;
      };
    }
