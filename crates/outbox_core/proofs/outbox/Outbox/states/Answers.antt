use Rattle.table_rows.proofs.LeavingLemmas.{stands}
use Rattle.outbox_core.proofs.outbox.Outbox.states.Goals as goal

pub returns-in-Ok-clause-found : goal.returns-in-Ok-clause-found
returns-in-Ok-clause-found g c clean entries was =
    let had = rw (← c.self.view_is) at was in
    c.in-Ok.ensures.found clean _ had.stands

pub returns-in-Ok-clause-kept : goal.returns-in-Ok-clause-kept
returns-in-Ok-clause-kept g c clean entries was =
    let had = rw (← c.self.view_is) at was in
    record { stands = stands c.in-Ok.ensures.leaves clean had.stands; count = had.count }

pub returns-in-Err-clause-kept : goal.returns-in-Err-clause-kept
returns-in-Err-clause-kept g c clean entries was =
    let had = rw (← c.self.view_is) at was in
    record { stands = stands c.in-Err.ensures.leaves clean had.stands; count = had.count }
