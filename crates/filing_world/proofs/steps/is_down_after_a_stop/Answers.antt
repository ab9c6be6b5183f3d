use Rattle.filing_world.proofs.Stepping.{intake_up, intake_down, outbox_up, outbox_down}
use Rattle.filing_world.proofs.steps.is_down_after_a_stop.Goals as goal

pub returns : goal.returns
returns c = λ old new given crash. record {
  intake = λ item. intake_up old new item given crash;
  delivers = λ item. intake_down old new item given crash;
  outbox = λ output outbox number from box answers step here. outbox_up old new output given outbox number crash from
      answers step box here;
  hands = λ output outbox number from. outbox_down old new output given outbox number crash from;
}
