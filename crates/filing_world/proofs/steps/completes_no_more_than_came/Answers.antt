use Rattle.filing_world.proofs.Stepping.{of_an_entry, of_a_cut, before_the_first, before_at_most, after_at_most}
use Rattle.filing_world.proofs.steps.completes_no_more_than_came.Goals as goal

pub returns : goal.returns
returns c = λ old new item given. record {
  of_an_entry = of_an_entry old new item given;
  of_a_cut =
      λ crash from r here sendable own short step. of_a_cut old new item given crash from r here sendable own step
      short;
  before_the_first = before_the_first old new item given;
  before = before_at_most old new item given;
  after = after_at_most old new item given;
}
