use Rattle.std.proofs.Common.{arith, rules}
use Rattle.std.proofs.lemmas.Grind.{common_steps}
use Rattle.terminal_text.specs.OneLine.{escape}
use Rattle.terminal_text.proofs.character.write_escape.Goals as goal

pub returns : goal.returns
unfolding escape
returns g c = first_of (search rules, grind (arith, common_steps))
