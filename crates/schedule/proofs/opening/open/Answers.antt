use Rattle.std.proofs.Common.{refl, sym, ◌∙◌}
use Rattle.schedule.specs.OutboxEnd.{lying_in}
use Rattle.schedule.proofs.Causes.{of_register}
use Rattle.schedule.proofs.opening.open.Goals as goal

pub returns-in-Ok-clause-kept : goal.returns-in-Ok-clause-kept
returns-in-Ok-clause-kept g c = λ requests keeps.
    let certain = c.in-Ok.ensures.certain ∙ keeps.0 in
    (certain, (c.in-Ok.ensures.leaves g.met.D.Honest.honest refl).kept 0 requests (λ _. keeps.1) certain)

pub returns-in-Err-clause-refused : goal.returns-in-Err-clause-refused
returns-in-Err-clause-refused g c = (
  c.in-Err.refusal.why,
  c.in-Err.ensures.why.0,
  c.in-Err.ensures.why.1,
  c.from.ensures,
)

pub returns-in-Err-clause-store : goal.returns-in-Err-clause-store
returns-in-Err-clause-store g c = λ e.
    of_register g.D.Disk (lying_in c.args.process.now.place) (lying_in c.open.new.self.place) c.in-Err.ensures.why.0
    c.in-Err.refusal.why c.in-Err.ensures.why.1 (sym c.from.ensures ∙ (cc e))
