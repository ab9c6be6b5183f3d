use Rattle.std.specs.String.{string_bytes}
use Rattle.schedule.proofs.Entries.{then_ok}
use Rattle.schedule.proofs.filer.Filer.restart.Goals as goal

pub returns-clause-restarted : goal.returns-clause-restarted
returns-clause-restarted g c =
    let inside = c.self.inside in
    rw (← c.self.view_is)
    (then_ok c.start.result (λ up. λ i. record {
      filer = string_bytes inside.code;
      entries = inside.entries.items;
      up =
          up i;
    })
    c.start.ensures.up)

pub invariant_of-self-2 : goal.invariant_of-self-2
invariant_of-self-2 g c =
    let code = string_bytes c.self.inside.code in
    let entries = c.self.inside.entries.items in
    c.start.ensures.kept code entries (c.in_ok-stop.ensures.kept code entries c.self.invariant)
