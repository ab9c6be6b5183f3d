use Rattle.std.proofs.Common.{refl}
use Rattle.outbox_process.proofs.tasks.answering.refuses.Goals as goal

pub returns-else-is_named : goal.returns-else-is_named
returns-else-is_named c = (
  c.has_string-is_named.result,
  rw c.as_slice.ensures.value at c.has_string-is_named.ensures,
  rw c.if-is_named.false refl,
)
