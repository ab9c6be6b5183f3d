use Rattle.std.proofs.Common.{sym, ◌∙◌, subst}
use Rattle.table_rows.specs.Causes.{store_fault}
use Rattle.schedule.proofs.Causes.{of_closing}
use Rattle.schedule.specs.OutboxEnd.{lying_in}
use Rattle.schedule.specs.Processes.{IsNotStopped}
use Rattle.schedule.proofs.Serving.{not_closed}
use Rattle.schedule.proofs.opening.close.Goals as goal

pub returns-in-Ok-clause-kept : goal.returns-in-Ok-clause-kept
returns-in-Ok-clause-kept g c = λ limit requests keeps.
    let certain = (rw c.in-Ok.is at c.close-outcome.ensures.certain) ∙ keeps.0 in
    (certain, (c.close-outcome.ensures.leaves g.met.D.Honest.honest limit).kept 0 requests (λ _. keeps.1) certain)

pub returns-in-Err-clause-refused : goal.returns-in-Err-clause-refused
returns-in-Err-clause-refused g c =
    let old = c.args.process.now in
    let closes = c.close-outcome.ensures in
    let why =
    not_closed old.intake old.place.files (lying_in c.close-outcome.new.self.place) c.close-outcome.result.outcome
    c.in-Err.error (λ none. (closes.already none).1) closes.files c.in-Err.is in
    subst (λ cause. IsNotStopped {g = g.D.Disk} old.intake (lying_in c.close-outcome.new.self.place) cause)
    (sym c.of_close.ensures) why

pub returns-in-Err-clause-store : goal.returns-in-Err-clause-store
returns-in-Err-clause-store g c = λ e. of_closing (store_fault c.in-Err.error) (sym c.of_close.ensures ∙ (cc e))
