use Rattle.std.proofs.Common.{sym, refl}
use Rattle.intake_process.proofs.Visits.{visits_sure, visits_unsure}
use Rattle.intake_process.proofs.process.IntakeProcess.visit.Goals as goal

pub returns-then-is_doubtful : goal.returns-then-is_doubtful
returns-then-is_doubtful g c =
    visits_unsure g.met.D.Disk.seen_may_stay c.args.errand _ _ _ _ c.visit_place-visited.result
    c.visit_place-visited.ensures (sym c.if-is_doubtful.ensures) refl refl c.requires

pub returns-else-is_doubtful : goal.returns-else-is_doubtful
returns-else-is_doubtful g c =
    visits_sure g.met.D.Disk.seen_may_stay c.args.errand _ _ _ _ c.visit_place-visited.result
    c.visit_place-visited.ensures (sym c.if-is_doubtful.ensures) refl refl c.requires
