use Rattle.std.proofs.Common.{◌+◌, ◌<◌, length, sym, ap, ◌∙◌, arith}
use Rattle.register_rows.proofs.SegmentLemmas.{begins_more, begun_at, begun_long}
use Rattle.register_rows.proofs.segments.after_items.Goals as goal

pub returns-then-rows-items : goal.returns-then-rows-items
returns-then-rows-items g c tail is = let long =
    begun_long (g.T.RowItem.row_of c.args.number) c.args.rows.now c.args.items.now tail is in
    omega (arith, long, c.if-rows-items.true)

pub returns-then-not-is_said_by : goal.returns-then-not-is_said_by
returns-then-not-is_said_by g c tail is =
    let made =
    begun_at (g.T.RowItem.row_of c.args.number) c.args.rows.now c.args.items.now tail is c.loop-at.at
    c.index-rows-at.result c.index-items-at.result c.loop-at-test.true in
    let so = c.is_said_by.ensures.1 (c.index-rows-at.is ∙ made
    ∙ sym (ap (g.T.RowItem.row_of c.args.number (c.loop-at.at + 1)) c.index-items-at.is)) in
    absurd (let no = c.if-not-is_said_by.true in cc)

pub loop-at-preserved : goal.loop-at-preserved
loop-at-preserved g c =
    let low : c.loop-at.at < length c.args.rows.now = omega (arith, c.loop-at-test.true, c.loop-at.invariant.long) in
    let so = c.is_said_by.ensures.0 c.if-not-is_said_by.false in
    record {
      same = begins_more (g.T.RowItem.row_of c.args.number) c.args.rows.now c.args.items.now c.loop-at.at
          c.index-rows-at.result c.index-items-at.result low c.loop-at-test.true c.loop-at.invariant.same
          (sym c.index-rows-at.is ∙ so ∙ ap (g.T.RowItem.row_of c.args.number (c.loop-at.at + 1)) c.index-items-at.is);
      long = c.loop-at.invariant.long;
    }
