use Rattle.schedule.proofs.ends.outboxes.ask.Goals as goal

pub returns-in-Some-clause-answer : goal.returns-in-Some-clause-answer
returns-in-Some-clause-answer g c = λ filer entries keeps.
    c.ask_process.ensures.answer filer entries (rw c.in-Some.is at keeps)

pub returns-in-Some-clause-kept : goal.returns-in-Some-clause-kept
returns-in-Some-clause-kept g c = λ filer entries keeps.
    c.ask_process.ensures.kept filer entries (rw c.in-Some.is at keeps)
