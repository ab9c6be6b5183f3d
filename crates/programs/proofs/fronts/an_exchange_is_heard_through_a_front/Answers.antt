use Rattle.programs.proofs.Passing.{heard_through}
use Rattle.programs.proofs.fronts.an_exchange_is_heard_through_a_front.Goals as goal

pub returns : goal.returns
returns c = heard_through
