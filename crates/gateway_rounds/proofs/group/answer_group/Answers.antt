use Rattle.std.proofs.Common.{◌<◌, ◌∙◌, List, length, refl, arith}
use Rattle.gateway_rounds.specs.declared.new.New.{New}
use Rattle.gateway_rounds.specs.Groups.{IsAskedIn}
use Rattle.gateway_rounds.proofs.Telling.{is_there, none_filed, one_filed, one_longer, one_of}
use Rattle.gateway_rounds.proofs.group.answer_group.Goals as goal

pub loop-at-init : goal.loop-at-init
loop-at-init g c = record {
  filed = none_filed g.T.Stream g.S.Store _ c.args.port.now.group.items c.args.intake.now;
  group = refl;
}

pub answer_one-requires : goal.answer_one-requires
answer_one-requires g c =
    let at = c.loop-at.at in
    let group : List New = c.args.port.now.group.items in
    let one : New = c.index.result.now in
    let low : at < length group = omega (arith, c.loop-at-test.true, c.len-at-end.ensures) in
    let is = rw c.loop-at.invariant.group at c.index.ensures in
    let filed = c.loop-at.invariant.filed in
    is_there g.T.Stream _ _ group at one (one_longer group at one low is) c.requires.apart
    (one_of (IsAskedIn c.args.port.now.hall) group at one low is c.requires.waits) filed.turns filed.takes.tells
    filed.there

pub loop-at-preserved : goal.loop-at-preserved
loop-at-preserved g c =
    let at = c.loop-at.at in
    let group : List New = c.args.port.now.group.items in
    let one : New = c.index.result.now in
    let low : at < length group = omega (arith, c.loop-at-test.true, c.len-at-end.ensures) in
    let is = rw c.loop-at.invariant.group at c.index.ensures in
    record {
      filed = one_filed g.T.Stream g.S.Store _ _ _ group at one c.args.intake.now c.loop-at.intake
          c.answer_one.new.intake (one_longer group at one low is) c.requires.apart
          (one_of (IsAskedIn c.args.port.now.hall) group at one low is c.requires.waits) c.loop-at.invariant.filed
          c.answer_one.ensures.takes;
      group = c.answer_one.ensures.group ∙ c.loop-at.invariant.group;
    }
