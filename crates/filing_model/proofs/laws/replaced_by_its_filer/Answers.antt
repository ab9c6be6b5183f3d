use Rattle.filing_model.proofs.Owning.{register_owned}
use Rattle.filing_model.proofs.laws.replaced_by_its_filer.Goals as goal

pub returns : goal.returns
returns c = register_owned
