use Rattle.std.proofs.Common.{◌≡◌, ◌∙◌, Some, ap}
use Rattle.connection_hall.specs.declared.ready.Ready.TheVariants.{Refused}
use Rattle.connection_hall.proofs.Told.{finished_refused}
use Rattle.connection_hall.proofs.served.Served.finish.Goals as goal

pub returns-in-Some-Refused-clause-finished : goal.returns-in-Some-Refused-clause-finished
returns-in-Some-Refused-clause-finished g c bytes arrivals finished next = λ last is.
    let ready : c.in-Some-Refused.field-0 ≡ Refused c.in-Some-Refused.field-0-0 =
    rw c.in-Some-Refused.is at c.in-Some-Refused.field-0-is in
    finished_refused c.args.self.now c.close.new.self bytes arrivals last c.in-Some-Refused.field-0-0
    (c.in-Some-Refused.is ∙ ap Some ready) is next
    (λ open' refused. c.close.ensures.refused bytes arrivals c.in-Some-Refused.field-0-0 finished open' refused)
    c.close.ensures.over
