use Rattle.std.proofs.Common.{arith}
use Rattle.register_extracts.proofs.Whole.{joined_same}
use Rattle.register_extracts.proofs.laws.joined_texts_tell_the_rows.Goals as goal

pub returns : goal.returns
returns c rows others p q h k e = joined_same 1 rows others p q (omega arith) (omega arith) e
