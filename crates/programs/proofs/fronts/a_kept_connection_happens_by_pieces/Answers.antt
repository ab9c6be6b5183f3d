use Rattle.programs.proofs.Kept.{happens_by_pieces, killed_by_pieces}
use Rattle.programs.proofs.fronts.a_kept_connection_happens_by_pieces.Goals as goal

pub returns-clause-served : goal.returns-clause-served
returns-clause-served c = happens_by_pieces

pub returns-clause-killed : goal.returns-clause-killed
returns-clause-killed c = killed_by_pieces
