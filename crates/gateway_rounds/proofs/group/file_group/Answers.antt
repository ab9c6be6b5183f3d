use Rattle.gateway_rounds.proofs.Telling.{filed_together}
use Rattle.gateway_rounds.proofs.group.file_group.Goals as goal

pub returns-in-Ok : goal.returns-in-Ok
returns-in-Ok g c =
    let told = rw c.as_slice-in-Ok.ensures.value at c.tell_group.ensures in
    let decided = rw c.as_slice.ensures.value at c.in-Ok.ensures.decided in
    filed_together g.T.Stream g.S.Store _ _ c.args.port.now.group.items c.args.intake.now c.decide_group.new.intake
    c.in-Ok.all.items told decided c.decide_group.ensures.setting
