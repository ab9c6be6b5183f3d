use Rattle.std.proofs.Common.{arith}
use Rattle.gateway_rounds.proofs.Sorting.{all_sorted, none_sorted, one_before, one_behind, turned_round}
use Rattle.gateway_rounds.proofs.at_once.answer_at_once.Goals as goal

pub on-init : goal.on-init
on-init g c = record {
  low = omega arith;
  sorts = rw c.requires (none_sorted g.T.Stream g.S.Store c.args.port.now.next _ c.args.intake.now);
}

pub on-preserved : goal.on-preserved
on-preserved g c =
    let sorted = c.sort_place-has_room in
    let place = c.in-Some.place in
    let found = c.in-Some.ensures.found in
    let low = c.on.invariant.low in
    let behind = found.0 in
    record {
      low = omega (arith, low, behind);
      sorts = rw c.left_after-left.ensures
          (one_behind g.T.Stream g.S.Store c.args.port.now.next _ _ _ c.on.port.group.items sorted.new.port.group.items
          c.on.left c.args.intake.now c.on.intake sorted.new.intake c.on.from place behind c.in-Some.ensures.first
          found.1 sorted.result sorted.ensures low c.on.invariant.sorts);
    }

pub round-init : goal.round-init
round-init g c =
    turned_round g.T.Stream g.S.Store c.args.port.now.next _ _ c.on.port.group.items c.on.left c.args.intake.now
    c.on.intake c.on.from c.in_default.ensures.none c.on.invariant.sorts

pub returns-in_default-ready : goal.returns-in_default-ready
returns-in_default-ready g c =
    all_sorted g.T.Stream g.S.Store c.args.port.now.next _ _ c.round.port.group.items c.round.left c.args.intake.now
    c.round.intake c.round.upto (λ i low before. c.in_default-ready.ensures.none i low) c.round.invariant

pub returns-then-place-start : goal.returns-then-place-start
returns-then-place-start g c =
    let end = c.if-place-start.true in
    all_sorted g.T.Stream g.S.Store c.args.port.now.next _ _ c.round.port.group.items c.round.left c.args.intake.now
    c.round.intake c.round.upto
    (λ i low before. c.in-Some-ready.ensures.first i low (omega (arith, before, end))) c.round.invariant

pub round-preserved : goal.round-preserved
round-preserved g c =
    let sorted = c.sort_place-has_room-in-round in
    let place = c.in-Some-ready.place in
    let found = c.in-Some-ready.ensures.found in
    rw c.left_after-left-in-round.ensures
    (one_before g.T.Stream g.S.Store c.args.port.now.next _ _ _ c.round.port.group.items sorted.new.port.group.items
    c.round.left c.args.intake.now c.round.intake sorted.new.intake c.round.upto place found.0
    c.in-Some-ready.ensures.first found.1 sorted.result sorted.ensures c.if-place-start.false c.round.invariant)
