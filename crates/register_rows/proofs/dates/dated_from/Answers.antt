use Rattle.std.proofs.Common.{arith}
use Rattle.register_rows.proofs.MomentLemmas.{none_so_far, more_so_far, ends_here, ends_with_all}
use Rattle.register_rows.proofs.dates.dated_from.Goals as goal

pub loop-at-init : goal.loop-at-init
loop-at-init c = none_so_far c.args.first c.args.rows.now

pub loop-at-preserved : goal.loop-at-preserved
loop-at-preserved c =
    let dated = c.is_dated.ensures.yes c.if-not-is_dated.false in
    more_so_far c.args.first c.args.rows.now c.loop-at.at c.index-rows-at.result c.loop-at-test.true
    c.index-rows-at.is c.loop-at.invariant dated.0 dated.1 dated.2

pub returns-then-not-is_dated : goal.returns-then-not-is_dated
returns-then-not-is_dated c =
    ends_here c.args.first c.args.rows.now c.loop-at.at c.index-rows-at.result c.loop-at-test.true c.index-rows-at.is
    c.loop-at.invariant (c.is_dated.ensures.no (let no = c.if-not-is_dated.true in cc))

pub returns : goal.returns
returns c =
    ends_with_all c.args.first c.args.rows.now c.loop-at.at (omega (arith, c.loop-at-test.false)) c.loop-at.invariant
