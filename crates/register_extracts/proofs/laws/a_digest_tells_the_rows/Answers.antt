use Rattle.register_extracts.proofs.Whole.{told}
use Rattle.register_extracts.proofs.laws.a_digest_tells_the_rows.Goals as goal

pub returns : goal.returns
returns c = told
