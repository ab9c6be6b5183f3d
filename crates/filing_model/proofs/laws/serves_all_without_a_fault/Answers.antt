use Rattle.filing_model.proofs.Answered.{answered_all}
use Rattle.filing_model.proofs.laws.serves_all_without_a_fault.Goals as goal

pub returns : goal.returns
returns c = answered_all
