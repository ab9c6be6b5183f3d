use Rattle.std.proofs.Common.{sym}
use Rattle.schedule.proofs.world.World.intake.Goals as goal

pub returns-clause-lent : goal.returns-clause-lent
returns-clause-lent g c = rw (sym c.self.view_is) c.intake.ensures.lent

pub returns-clause-keeps : goal.returns-clause-keeps
returns-clause-keeps g c = rw (sym c.self.view_is) c.intake.ensures.keeps
