use Rattle.std.proofs.Common.{Ok, Err, refl, subst, inr, inl}
use Rattle.database_places.specs.Opening.{is_found}
use Rattle.gateway_rounds.specs.Ports.{port as view_port}
use Rattle.intake_process.specs.Process.{parts}
use Rattle.intake_commands.specs.Tasks.{ServesPort}
use Rattle.intake_commands.proofs.Done.{served_as}
use Rattle.intake_commands.proofs.serving.serve_port.Goals as goal

pub returns-in-Err : goal.returns-in-Err
returns-in-Err g c = inr (inl (record {
  new_one = c.in-Err.ensures.refused;
  same = c.in-Err.ensures.same;
  kept = refl;
  told = refl;
}))

pub returns-in-Ok : goal.returns-in-Ok
returns-in-Ok g c =
    let view = view_port g.K.Sockets.traffic in
    subst (λ port. ServesPort g.T.Stream c.args.serving port (view c.serve_register-served.new.port)
    (parts g.P.Place.lying c.args.process.now) (parts g.P.Place.lying c.serve_register-served.new.process) (Ok 0))
    c.in_default-listen_before.ensures.same
    (served_as g.T.Stream c.args.serving (is_found c.opening.result) c.in-Some.limit.keys
    (view c.listen_before.new.port) (view c.serve_register-served.new.port)
    (parts g.P.Place.lying c.args.process.now) (parts g.P.Place.lying c.serve_register-served.new.process)
    (Ok c.in-Ok.field-0) (Ok 0) c.opening.ensures c.in-Some.ensures c.in-Some.limit.few c.in-Ok.ensures refl)

pub returns-in-Err-served : goal.returns-in-Err-served
returns-in-Err-served g c =
    let view = view_port g.K.Sockets.traffic in
    subst (λ port. ServesPort g.T.Stream c.args.serving port (view c.serve_register-served.new.port)
    (parts g.P.Place.lying c.args.process.now) (parts g.P.Place.lying c.serve_register-served.new.process)
    (Err c.serving_fault.result)) c.in_default-listen_before.ensures.same
    (served_as g.T.Stream c.args.serving (is_found c.opening.result) c.in-Some.limit.keys
    (view c.listen_before.new.port) (view c.serve_register-served.new.port)
    (parts g.P.Place.lying c.args.process.now) (parts g.P.Place.lying c.serve_register-served.new.process)
    (Err c.in-Err-served.fault) (Err c.serving_fault.result) c.opening.ensures c.in-Some.ensures c.in-Some.limit.few
    c.in-Err-served.ensures c.serving_fault.ensures)
