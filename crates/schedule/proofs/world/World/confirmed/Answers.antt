use Rattle.std.proofs.Common.{◌||◌, rules, refl, sym, subst}
use Rattle.std.specs.List.{list_any}
use Rattle.filing_world.specs.Invariant.{Keeps}
use Rattle.schedule.proofs.Steps.{world_with}
use Rattle.schedule.proofs.world.World.confirmed.Goals as goal

pub invariant_of-self : goal.invariant_of-self
invariant_of-self g c = λ none.
    let inside = c.self.inside in
    subst (λ boxes. Keeps (world_with inside.server inside.sent.items inside.outputs.items boxes))
    (sym c.all_states.ensures.same) (c.self.invariant none)

pub invariant_of-self-in-Ok : goal.invariant_of-self-in-Ok
invariant_of-self-in-Ok g c = λ none.
    let inside = c.self.inside in
    subst (λ boxes. Keeps (world_with inside.server inside.sent.items inside.outputs.items boxes))
    (sym c.all_states.ensures.same) (c.self.invariant none)

pub invariant_of-self-2 : goal.invariant_of-self-2
invariant_of-self-2 g c = λ none.
    let inside = c.self.inside in
    subst (λ boxes. Keeps (world_with inside.server inside.sent.items inside.outputs.items boxes))
    (sym c.all_states.ensures.same) (c.self.invariant none)

pub returns-in_err-states-clause-down : goal.returns-in_err-states-clause-down
returns-in_err-states-clause-down g c =
    rw (sym c.self.view_is) (λ down. let is = c.in_err-states.ensures.down down in search rules)

pub returns-clause-down : goal.returns-clause-down
returns-clause-down g c = rw (sym c.self.view_is) (λ down. let no = c.in_ok-states.ensures.down down in absurd (cc))

pub returns-in_err-states-clause-same : goal.returns-in_err-states-clause-same
returns-in_err-states-clause-same g c =
    let inside = c.self.inside in
    rw (sym c.self.view_is) (record {
      world = λ i. world_with inside.server inside.sent.items inside.outputs.items (c.all_states.ensures.same i);
      events = refl;
      fault = refl;
      taken = λ i. inside.server.taken || list_any (λ taken. taken) (c.all_states.ensures.stays i);
    })

pub returns-in-Ok-clause-same : goal.returns-in-Ok-clause-same
returns-in-Ok-clause-same g c =
    let inside = c.self.inside in
    rw (sym c.self.view_is) (record {
      world = λ i. world_with inside.server inside.sent.items inside.outputs.items (c.all_states.ensures.same i);
      events = refl;
      fault = refl;
      taken = λ i. inside.server.taken || list_any (λ taken. taken) (c.all_states.ensures.stays i);
    })

pub returns-clause-same : goal.returns-clause-same
returns-clause-same g c =
    let inside = c.self.inside in
    rw (sym c.self.view_is) (record {
      world = λ i. world_with inside.server inside.sent.items inside.outputs.items (c.all_states.ensures.same i);
      events = refl;
      fault = refl;
      taken = λ i. inside.server.taken || list_any (λ taken. taken) (c.all_states.ensures.stays i);
    })

pub returns-in_err-states-clause-store : goal.returns-in_err-states-clause-store
returns-in_err-states-clause-store g c = rw (sym c.self.view_is) (λ e. c.in_err-states.ensures.store (search rules))
