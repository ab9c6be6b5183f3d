use Rattle.filing_model.proofs.Steps.{own_text, others_text}
use Rattle.filing_model.proofs.laws.a_step_adds_its_text.Goals as goal

pub returns-clause-own : goal.returns-clause-own
returns-clause-own c = own_text

pub returns-clause-others : goal.returns-clause-others
returns-clause-others c = others_text
