use Rattle.std.proofs.Common.{sym, ◌∙◌}
use Rattle.key_string.proofs.laws.key_has_one_spelling.Goals as goal

pub returns : goal.returns
returns c = λ key bytes other first second. second.spelled ∙ sym first.spelled
