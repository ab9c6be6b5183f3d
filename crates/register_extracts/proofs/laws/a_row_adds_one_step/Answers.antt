use Rattle.register_extracts.proofs.Adding.{digest_more}
use Rattle.register_extracts.proofs.laws.a_row_adds_one_step.Goals as goal

pub returns : goal.returns
returns c = digest_more
