use Rattle.std.proofs.Common.{◌∙◌}
use Rattle.outbox_process.proofs.Opens.{told_open}
use Rattle.outbox_process.proofs.tasks.rounds.open_entries.Goals as goal

pub returns-in-Ok-clause-found : goal.returns-in-Ok-clause-found
returns-in-Ok-clause-found g c clean entries had =
    (rw c.as_slice.ensures.value at c.in-Ok.ensures)
    ∙ told_open c.in_ok-states.states.items entries (c.in_ok-states.ensures.found clean entries had)
