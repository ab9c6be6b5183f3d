use Rattle.std.proofs.Common.{arith}
use Rattle.std.proofs.lemmas.Grind.{common_steps}
use Rattle.xbrl_values.proofs.Escapes.{length-escaped-cons, escaped-nil}
use Rattle.xbrl_values.proofs.pointer.room_after.Goals as goal

pub loop-byte-preserved : goal.loop-byte-preserved
loop-byte-preserved c = let steps = c.in-Some.ensures.steps in grind (arith, common_steps, length-escaped-cons)

pub returns-in_err-room-2 : goal.returns-in_err-room-2
returns-in_err-room-2 c = let steps = c.in-Some.ensures.steps in grind (arith, common_steps, length-escaped-cons)

pub returns : goal.returns
returns c = let steps = c.in-None.ensures.steps in grind (arith, common_steps, escaped-nil)
