use Rattle.std.proofs.Common.{sym, ◌∙◌}
use Rattle.outbox_tables.specs.Entries.{contents_of}
use Rattle.schedule.specs.OutboxEnd.{lying_in}
use Rattle.schedule.proofs.Causes.{of_outbox}
use Rattle.schedule.proofs.ends.opening.open.Goals as goal

pub returns-in-Ok-clause-kept : goal.returns-in-Ok-clause-kept
returns-in-Ok-clause-kept g c = λ filer entries keeps.
    let certain = c.in-Ok.ensures.certain ∙ keeps.0 in
    (certain, c.in-Ok.ensures.keeps g.met.D.Honest.honest (contents_of filer entries) (λ _. keeps.1) certain)

pub returns-in-Err-clause-refused : goal.returns-in-Err-clause-refused
returns-in-Err-clause-refused g c =
    let refused = c.in-Err.ensures.refused in
    (refused.0, c.in-Err.refusal.why, refused.1, c.from.ensures)

pub returns-in-Err-clause-store : goal.returns-in-Err-clause-store
returns-in-Err-clause-store g c = λ e.
    let refused = c.in-Err.ensures.refused in
    of_outbox g.D.Disk (lying_in c.args.process.now.place) (lying_in c.open.new.self.place) refused.0
    c.in-Err.refusal.why refused.1 (sym c.from.ensures ∙ (cc e))
