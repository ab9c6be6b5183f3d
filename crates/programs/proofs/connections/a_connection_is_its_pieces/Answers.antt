use Rattle.programs.proofs.Cutting.{served_in_pieces, stopped_in_pieces}
use Rattle.programs.proofs.connections.a_connection_is_its_pieces.Goals as goal

pub returns-clause-served : goal.returns-clause-served
returns-clause-served c = served_in_pieces

pub returns-clause-stopped : goal.returns-clause-stopped
returns-clause-stopped c = stopped_in_pieces
