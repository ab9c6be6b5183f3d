use Rattle.programs.proofs.Happening.{turned}
use Rattle.programs.proofs.turns_happen.Goals as goal

pub returns : goal.returns
returns c = λ limit keys old turns deliveries after. turned limit keys old turns deliveries after
