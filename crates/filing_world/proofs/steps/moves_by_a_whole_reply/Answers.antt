use Rattle.filing_world.proofs.Stepping.{moves}
use Rattle.filing_world.proofs.steps.moves_by_a_whole_reply.Goals as goal

pub returns : goal.returns
returns c =
    λ old new output given crash from outbox number state reply answers has on gives few step. moves old new output
    given outbox number crash from answers step state reply has on gives few
