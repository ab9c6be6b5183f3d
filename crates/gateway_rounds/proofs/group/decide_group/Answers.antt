use Rattle.std.proofs.Common.{◌∙◌}
use Rattle.gateway_rounds.proofs.Telling.{new_decided}
use Rattle.gateway_rounds.proofs.group.decide_group.Goals as goal

pub returns-clause-decided : goal.returns-clause-decided
returns-clause-decided g c =
    new_decided g.S.Store c.args.hall.now c.args.group.now c.as_slice.result.now c.are_new.result c.file_all.result
    c.args.intake.now c.file_all.new.intake (c.as_slice.ensures.value ∙ c.in_ok-requests.ensures.are)
    c.are_new.ensures c.file_all.ensures.decided
