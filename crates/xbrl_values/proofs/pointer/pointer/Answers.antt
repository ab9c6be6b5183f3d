use Rattle.std.proofs.Common.{arith, rules}
use Rattle.std.proofs.lemmas.Grind.{common_steps}
use Rattle.xbrl_values.specs.Pointer.{pointer}
use Rattle.xbrl_values.proofs.Escapes.{pointer-push}
use Rattle.xbrl_values.proofs.pointer.pointer.Goals as goal

pub loop-name-init : goal.loop-name-init
unfolding pointer
loop-name-init c = search rules

pub loop-name-preserved : goal.loop-name-preserved
loop-name-preserved c = grind (arith, common_steps, pointer-push)
