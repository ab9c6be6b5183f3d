use Rattle.std.proofs.Common.{None}
use Rattle.schedule.proofs.Entries.{box_stopped, then_ok}
use Rattle.schedule.proofs.filer.Filer.hand.Goals as goal

pub returns-in-Before-clause-heard : goal.returns-in-Before-clause-heard
returns-in-Before-clause-heard g c =
    rw c.in-Before.is
    (then_ok c.stop.result (λ down what here. (
      None,
      tt,
      box_stopped c.args.self.now.box c.stop.new.self.box c.args.entry c.in-Before.field-0 what here down,
    ))
    c.stop.ensures.down)
