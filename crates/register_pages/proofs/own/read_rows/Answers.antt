use Rattle.std.proofs.Common.{◌≡◌, ◌<◌, ap, get_or, length, rules, subst, ◌∙◌, arith}
use Rattle.std.specs.Prelude.{is_some}
use Rattle.std.proofs.lemmas.List.{length-map, take_all}
use Rattle.register_pages.specs.Own.{AreOwn, own_row}
use Rattle.register_pages.proofs.OwnReads.{no_request, own_at}
use Rattle.register_pages.proofs.Counting.{one_more}
use Rattle.register_pages.proofs.own.read_rows.Goals as goal

pub loop-row-init : goal.loop-row-init
loop-row-init c sent are = record { filings = search rules; refused = search rules }

pub loop-row-preserved : goal.loop-row-preserved
loop-row-preserved c sent are =
    let i = c.loop-row.row-index in
    let many : length c.args.rows.now ≡ length sent = ap length are ∙ length-map sent own_row in
    let low : i < length sent = omega (arith, c.loop-row-test.true, many) in
    let its = own_at i c.args.rows.now sent c.row-item.result are low c.row-item.is in
    let told = c.in_ok-read_row.ensures (get_or sent i no_request) its in
    let had = c.loop-row.invariant sent are in
    let more = one_more sent i low (ap is_some told.1) told.0 had.filings had.refused c.in_ok-add.ensures in
    record { filings = more.0; refused = more.1 }

pub returns : goal.returns
returns c sent are =
    let many : length c.args.rows.now ≡ length sent = ap length are ∙ length-map sent own_row in
    let all = take_all c.loop-row.row-index sent (omega (arith, c.loop-row-test.false, many)) in
    subst (AreOwn c.loop-row.own) all (c.loop-row.invariant sent are)
