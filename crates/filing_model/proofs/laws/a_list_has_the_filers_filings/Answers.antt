use Rattle.filing_model.proofs.Listed.{register_listed}
use Rattle.filing_model.proofs.laws.a_list_has_the_filers_filings.Goals as goal

pub returns : goal.returns
returns c = register_listed
