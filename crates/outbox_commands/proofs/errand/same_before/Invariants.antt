use Rattle.outbox_commands.specs.Looking.{KeepsEntries}
use Rattle.outbox_commands.proofs.errand.same_before.Given as goal

abbrev pub invariant-loop-id : goal.invariant-loop-id
invariant-loop-id g l = KeepsEntries g.S.Store l.fn.outbox l.outbox
