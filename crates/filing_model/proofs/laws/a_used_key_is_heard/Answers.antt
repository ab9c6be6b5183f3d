use Rattle.filing_model.proofs.Contents.{moved-reused}
use Rattle.filing_model.proofs.laws.a_used_key_is_heard.Goals as goal

pub returns : goal.returns
returns c = moved-reused
