use Rattle.connection_hall.specs.Running.{arrival_at}
use Rattle.gateway_rounds.proofs.Decided.{refused_looks}
use Rattle.gateway_rounds.proofs.sort.sort.Goals as goal

pub returns-in-Some-Refused-clause-looks : goal.returns-in-Some-Refused-clause-looks
returns-in-Some-Refused-clause-looks g c =
    let seen = rw c.in-Some-Refused.field-0-is at c.in-Some-Refused.ensures.seen in
    refused_looks g.S.Store (arrival_at c.args.hall.now c.args.place) c.in-Some-Refused.refusal c.refused.result.decided
    c.refused.result.closes c.args.intake.now seen c.refused.ensures.decided
