use Rattle.filing_model.proofs.Alone.{alone_text, completed_alone, fit_alike}
use Rattle.filing_model.proofs.laws.a_connection_alone_gets_its_text.Goals as goal

pub returns-clause-text : goal.returns-clause-text
returns-clause-text c = alone_text

pub returns-clause-fit : goal.returns-clause-fit
returns-clause-fit c = fit_alike

pub returns-clause-completed : goal.returns-clause-completed
returns-clause-completed c = completed_alone
