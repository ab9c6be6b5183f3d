use Rattle.std.proofs.Common.{ap, refl, inl}
use Rattle.gateway_rounds.proofs.Decided.{place_looked_up, place_unknown}
use Rattle.gateway_rounds.proofs.Sorting.{new_sorted}
use Rattle.gateway_rounds.proofs.at_once.sort_place.Goals as goal

pub returns-in-Ok-AtOnce : goal.returns-in-Ok-AtOnce
returns-in-Ok-AtOnce g c =
    let verdict = c.in-Ok-AtOnce.verdict in
    let looks = rw c.in-Ok-AtOnce.field-0-is at c.in-Ok-AtOnce.ensures.looks in
    inl (place_looked_up g.T.Stream g.S.Store c.args.place _ _ c.args.intake.now c.sort.new.intake
    c.args.port.now.group.items c.tell_verdict.new.port.group.items verdict.decided verdict.closes c.requires
    c.tell_verdict.ensures.tells looks (ap (λ group. group.items) c.tell_verdict.ensures.group))

pub returns-in-Ok-Filing : goal.returns-in-Ok-Filing
returns-in-Ok-Filing g c =
    let sorted = rw c.in-Ok-Filing.field-0-is at c.in-Ok-Filing.ensures.sorted in
    let looks = rw c.in-Ok-Filing.field-0-is at c.in-Ok-Filing.ensures.looks in
    new_sorted g.T.Stream g.S.Store c.args.place _ _ c.args.port.now.group.items c.join.new.group.items
    c.args.intake.now c.sort.new.intake c.in-Ok-Filing.new c.join.result sorted looks refl c.join.ensures.joined
    c.join.ensures.left

pub returns-in-Err : goal.returns-in-Err
returns-in-Err g c =
    inl (place_unknown g.T.Stream g.S.Store c.args.place _ _ c.args.intake.now c.sort.new.intake
    c.args.port.now.group.items c.args.port.now.group.items c.requires c.give_up.ensures.running c.give_up.ensures.over
    c.give_up.ensures.others (record { asked = refl; bounds = c.give_up.ensures.bounds }) c.in-Err.ensures.looks refl)
