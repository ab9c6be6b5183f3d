use Rattle.outbox_process.proofs.tasks.lines.target_text.Goals as goal

pub returns-in-Some : goal.returns-in-Some
returns-in-Some c = rw c.in-Some.is c.replaces_text.ensures
