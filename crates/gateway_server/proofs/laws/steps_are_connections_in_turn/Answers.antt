use Rattle.gateway_server.proofs.Steps.{in_turn}
use Rattle.gateway_server.proofs.laws.steps_are_connections_in_turn.Goals as goal

pub returns : goal.returns
returns c = in_turn
