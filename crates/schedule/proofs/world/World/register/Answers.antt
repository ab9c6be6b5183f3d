use Rattle.std.proofs.Common.{sym, subst}
use Rattle.filing_world.specs.Invariant.{Keeps}
use Rattle.schedule.specs.Played.{world_of}
use Rattle.schedule.proofs.world.World.register.Goals as goal

pub invariant_of-self : goal.invariant_of-self
invariant_of-self g c = λ none.
    let inside = c.self.inside in
    subst (λ server. Keeps (world_of server inside.sent.items inside.outputs.items inside.filers.items))
    (sym c.register.ensures.same) (c.self.invariant none)

pub returns-clause-list : goal.returns-clause-list
returns-clause-list g c = rw (sym c.self.view_is) c.register.ensures.list

pub returns-clause-down : goal.returns-clause-down
returns-clause-down g c = rw (sym c.self.view_is) c.register.ensures.down
