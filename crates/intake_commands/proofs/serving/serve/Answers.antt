use Rattle.std.proofs.Common.{Some, option_map, refl, subst, sym}
use Rattle.gateway_rounds.specs.Ports.{port as view_port}
use Rattle.intake_process.specs.Process.{parts}
use Rattle.intake_commands.specs.Tasks.{Serves}
use Rattle.intake_commands.proofs.serving.serve.Goals as goal

pub returns-in-Some : goal.returns-in-Some
returns-in-Some g c =
    let view = view_port g.K.Sockets.traffic in
    subst (λ port. Serves g.T.Stream c.args.serving (option_map view port) (Some (view c.serve_port.new.port))
    (parts g.P.Place.lying c.args.process.now) (parts g.P.Place.lying c.serve_port.new.process) c.serve_port.result)
    (sym c.in-Some.is) (view c.serve_port.new.port, refl, c.serve_port.ensures)
