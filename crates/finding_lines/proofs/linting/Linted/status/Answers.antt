use Rattle.std.proofs.Common.{◌∙◌, ◌<◌, max, length, ap, subst, if◌then◌else◌}
use Rattle.command_line.specs.Status.{status_of}
use Rattle.finding_lines.proofs.Looks.{greatest_step}
use Rattle.finding_lines.proofs.linting.Linted.status.Goals as goal

pub loop-fault-preserved : goal.loop-fault-preserved
loop-fault-preserved c =
    let items = c.args.self.now.unread.items in
    let count = c.loop-fault.fault-index in
    let told = rw c.as_slice-fault-items.ensures.value at c.status.ensures in
    c.max-status.ensures
    ∙ ap (max c.loop-fault.status) told
    ∙ greatest_step status_of (if c.args.self.now.is_found then 1 else 0) items count _ c.loop-fault.status
    (subst (λ l. count < length l) c.as_slice-fault-items.ensures.value c.loop-fault-test.true) c.loop-fault.invariant
