use Rattle.std.specs.String.{string_bytes}
use Rattle.schedule.proofs.Entries.{then_ok}
use Rattle.schedule.proofs.filer.Filer.stop.Goals as goal

pub returns-clause-down : goal.returns-clause-down
returns-clause-down g c =
    let inside = c.self.inside in
    rw (← c.self.view_is)
    (then_ok c.stop.result (λ down. λ i. record {
      filer = string_bytes inside.code;
      entries = inside.entries.items;
      up =
          down i;
    })
    c.stop.ensures.down)

pub invariant_of-self : goal.invariant_of-self
invariant_of-self g c =
    c.stop.ensures.kept (string_bytes c.self.inside.code) c.self.inside.entries.items c.self.invariant
