use Rattle.std.proofs.Common.{◌≡◌, ◌<◌, ◌≤◌, ◌+◌, suc, length, map, drop, get_or, ap, subst, ◌∙◌, arith}
use Rattle.filing_model.specs.Register.{Kept}
use Rattle.table_rows.specs.Rows.{counted_from}
use Rattle.register_rows.specs.Register.{kept_row, amends_rows, joined_from}
use Rattle.register_rows.proofs.StepsOfTargets.{step, requests_step, all_taken}
use Rattle.register_store.proofs.decode.completed.read_requests.Goals as goal

pub loop-at-preserved : goal.loop-at-preserved
loop-at-preserved c ks rows amends =
    let at = c.loop-at.at in
    let row = c.index-rows-at.result in
    let target = c.target_of-target.result.0 in
    let tail = c.target_of-target.result.1.now in
    let had = c.loop-at.invariant ks rows amends in
    let low : at < length (counted_from kept_row 1 ks) = subst (λ l. at < length l) rows c.loop-at-test.true in
    let is : row ≡ get_or (counted_from kept_row 1 ks) at row =
    subst (λ l. row ≡ get_or l at row) rows c.index-rows-at.is in
    let place : at + 1 ≡ 1 + at = omega arith in
    let next : suc at ≡ at + 1 = omega arith in
    let s = step 1 ks at (at + 1) row c.loop-at.rest.now tail target place low is had.1
    c.target_of-target.ensures.only in (
      requests_step ks at (at + 1) row target tail c.loop-at.list.items c.push.new.self.items
          c.in_ok-read_request.field-0 s had.0 c.in_ok-read_request.ensures c.in_ok-push.ensures.items,
      s.tail_is ∙ ap (λ n. joined_from amends_rows (at + 1 + 1) (drop n ks)) next,
    )

pub returns : goal.returns
returns c ks rows amends =
    let had = c.loop-at.invariant ks rows amends in
    had.0 ∙ ap (map (λ (k : Kept). k.request)) (all_taken 1 ks c.loop-at.at
    (subst (λ l. length l ≤ c.loop-at.at) rows c.loop-at-test.false))
