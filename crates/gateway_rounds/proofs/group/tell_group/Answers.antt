use Rattle.std.proofs.Common.{◌<◌, ◌∙◌, List, take, length, arith}
use Rattle.gateway_server.specs.declared.decide.Decided.{Decided}
use Rattle.gateway_rounds.specs.declared.new.New.{New}
use Rattle.gateway_rounds.specs.Groups.{IsAskedIn}
use Rattle.gateway_rounds.proofs.Telling.{is_there, one_longer, one_of, one_told, places_there}
use Rattle.gateway_rounds.proofs.group.tell_group.Goals as goal

pub tell-requires-clause-waits : goal.tell-requires-clause-waits
tell-requires-clause-waits g c =
    let at = c.loop-at.at in
    let group : List New = c.args.port.now.group.items in
    let one : New = c.index-new.result.now in
    let low : at < length group = let each = c.requires.each in omega (arith, c.loop-at-test.true, each) in
    let is = rw c.loop-at.invariant.group at c.index-new.ensures in
    let told = c.loop-at.invariant.told in
    is_there g.T.Stream _ _ group at one (one_longer group at one low is) c.requires.apart
    (one_of (IsAskedIn c.args.port.now.hall) group at one low is c.requires.waits) told.turns told.tells
    (places_there c.args.port.now.hall (take at group) (take at c.args.all.now) told.turns told.are)

pub loop-at-preserved : goal.loop-at-preserved
loop-at-preserved g c =
    let at = c.loop-at.at in
    let group : List New = c.args.port.now.group.items in
    let ds : List Decided = c.args.all.now in
    let one : New = c.index-new.result.now in
    let low : at < length group = let each = c.requires.each in omega (arith, c.loop-at-test.true, each) in
    let is = rw c.loop-at.invariant.group at c.index-new.ensures in
    record {
      told = one_told g.T.Stream _ _ _ group ds at one c.index-all-at.result (one_longer group at one low is)
          (one_longer ds at c.index-all-at.result c.loop-at-test.true c.index-all-at.is) c.requires.apart
          (one_of (IsAskedIn c.args.port.now.hall) group at one low is c.requires.waits) c.loop-at.invariant.told
          c.tell.ensures.tells;
      group = c.tell.ensures.group ∙ c.loop-at.invariant.group;
    }
