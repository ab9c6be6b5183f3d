use Rattle.programs.proofs.Passing.{confirms_behind}
use Rattle.programs.proofs.fronts.confirms_behind_a_front.Goals as goal

pub returns : goal.returns
returns c = λ limit r keeps rewritten back some good made given.
    confirms_behind limit some r good rewritten back keeps made given
