use Rattle.std.proofs.Common.{refl}
use Rattle.gateway_rounds.proofs.Decided.{place_lost, place_taken}
use Rattle.gateway_rounds.proofs.one.answer_one.Goals as goal

pub returns-in-Ok-clause-takes : goal.returns-in-Ok-clause-takes
returns-in-Ok-clause-takes g c =
    place_taken g.T.Stream g.S.Store c.args.place _ _ c.args.intake.now c.decide_at.new.intake c.in-Ok.verdict.decided
    c.in-Ok.verdict.closes c.requires c.tell_verdict.ensures.tells c.in-Ok.ensures.decided c.decide_at.ensures.setting

pub returns-in-Err-clause-takes : goal.returns-in-Err-clause-takes
returns-in-Err-clause-takes g c =
    place_lost g.T.Stream g.S.Store c.args.place _ _ c.args.intake.now c.decide_at.new.intake c.give_up.ensures.running
    c.give_up.ensures.over c.give_up.ensures.others (record { asked = refl; bounds = c.give_up.ensures.bounds })
    c.in-Err.ensures.decided c.decide_at.ensures.setting
