use Rattle.std.proofs.Common.{sym, ◌∙◌, subst}
use Rattle.table_rows.specs.Causes.{store_fault}
use Rattle.outbox_tables.specs.Entries.{contents_of}
use Rattle.schedule.proofs.Causes.{of_closing, not_closed}
use Rattle.schedule.specs.OutboxEnd.{IsNotClosedIn, lying_in}
use Rattle.schedule.proofs.ends.opening.close.Goals as goal

pub returns-in-Ok-clause-kept : goal.returns-in-Ok-clause-kept
returns-in-Ok-clause-kept g c = λ filer entries keeps.
    let certain = c.in-Ok.ensures.certain ∙ keeps.0 in (
      certain,
      (c.in-Ok.ensures.leaves g.met.D.Honest.honest).kept (contents_of filer entries) (λ _. keeps.1) certain,
    )

pub returns-in-Err-clause-refused : goal.returns-in-Err-clause-refused
returns-in-Err-clause-refused g c =
    let old = c.args.process.now in
    let new = lying_in c.close.new.self.place in
    let closes = c.in-Err.ensures in
    let why =
    not_closed old.outbox (lying_in old.place) new c.in-Err.error (λ none. let no = (closes.already none).1 in cc)
    closes.files in
    subst (λ cause. IsNotClosedIn {g = g.D.Disk} old.outbox (lying_in old.place) new cause) (sym c.of_close.ensures) why

pub returns-in-Err-clause-store : goal.returns-in-Err-clause-store
returns-in-Err-clause-store g c = λ e. of_closing (store_fault c.in-Err.error) (sym c.of_close.ensures ∙ (cc e))
