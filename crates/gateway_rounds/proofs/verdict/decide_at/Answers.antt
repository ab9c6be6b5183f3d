use Rattle.std.proofs.Common.{refl}
use Rattle.connection_hall.specs.Running.{arrival_at}
use Rattle.intake_core.specs.Held.{limit_of, old_style_in}
use Rattle.gateway_rounds.proofs.Decided.{refused_decided}
use Rattle.gateway_rounds.proofs.verdict.decide_at.Goals as goal

pub returns-in-Some-Refused-clause-decided : goal.returns-in-Some-Refused-clause-decided
returns-in-Some-Refused-clause-decided g c = λ clean before holds.
    let limit = limit_of c.args.intake.now in
    let old_style = old_style_in c.args.intake.now before in
    let seen = rw c.in-Some-Refused.field-0-is at c.in-Some-Refused.ensures.seen in (
      before,
      holds,
      refl,
      refused_decided limit old_style before (arrival_at c.args.hall.now c.args.place) c.in-Some-Refused.refusal
          c.refused.result.decided c.refused.result.closes seen (c.refused.ensures.decided limit old_style before),
    )
