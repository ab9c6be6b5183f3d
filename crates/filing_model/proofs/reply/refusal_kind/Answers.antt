use Rattle.std.proofs.Common.{refl}
use Rattle.filing_model.proofs.reply.refusal_kind.Goals as goal

pub returns-in-Old : goal.returns-in-Old
returns-in-Old c = rw c.in-Old.is refl
