use Rattle.std.proofs.Common.{◌||◌, refl, sym, subst}
use Rattle.std.specs.List.{list_any}
use Rattle.filing_world.specs.Invariant.{Keeps}
use Rattle.schedule.proofs.Steps.{world_with}
use Rattle.schedule.proofs.world.World.states.Goals as goal

pub invariant_of-self : goal.invariant_of-self
invariant_of-self g c = λ none.
    let inside = c.self.inside in
    subst (λ boxes. Keeps (world_with inside.server inside.sent.items inside.outputs.items boxes))
    (sym c.all_states.ensures.same) (c.self.invariant none)

pub returns-clause-store : goal.returns-clause-store
returns-clause-store g c = rw (sym c.self.view_is) c.all_states.ensures.store

pub returns-clause-same : goal.returns-clause-same
returns-clause-same g c =
    let inside = c.self.inside in
    rw (sym c.self.view_is) (record {
      world = λ i. world_with inside.server inside.sent.items inside.outputs.items (c.all_states.ensures.same i);
      events = refl;
      fault = refl;
      taken = λ i. inside.server.taken || list_any (λ taken. taken) (c.all_states.ensures.stays i);
    })

pub returns-clause-list : goal.returns-clause-list
returns-clause-list g c = rw (sym c.self.view_is) c.all_states.ensures.list

pub returns-clause-down : goal.returns-clause-down
returns-clause-down g c = rw (sym c.self.view_is) c.all_states.ensures.down
