use Rattle.std.proofs.Common.{◌≡◌, ◌<◌, ◌≤◌, ◌+◌, ◌∷◌, ◌++◌, [], append-nil, suc, length, drop, take, get_or, ap, subst}
use Rattle.std.proofs.Common.{sym, ◌∙◌, arith}
use Rattle.filing_model.specs.Register.{filings}
use Rattle.table_rows.specs.Rows.{counted_from}
use Rattle.register_rows.specs.Register.{kept_row, amends_rows, joined_from}
use Rattle.register_store.proofs.FiledSteps.{filing_list, filing_read, filings_step}
use Rattle.register_rows.proofs.StepsOfTargets.{step, all_taken}
use Rattle.register_store.proofs.decode.completed.read_filings.Goals.{in-Some+in_ok-push, in_default}
use Rattle.register_store.proofs.decode.completed.read_filings.Goals as goal

pub loop-at-init : goal.loop-at-init
unfolding filings
loop-at-init c ks rows amends = (c.new-list.ensures.items, amends)

pub loop-at-preserved : goal.loop-at-preserved
loop-at-preserved c ks rows amends =
    let at = c.loop-at.at in
    let row = c.index-rows-at.result in
    let target = c.target_of-target.result.0 in
    let tail = c.target_of-target.result.1.now in
    let had = c.loop-at.invariant ks rows amends in
    let low : at < length (counted_from kept_row 1 ks) = subst (λ l. at < length l) rows c.loop-at-test.true in
    let is : row ≡ get_or (counted_from kept_row 1 ks) at row =
    subst (λ l. row ≡ get_or l at row) rows c.index-rows-at.is in
    let place : at + 1 ≡ 1 + at = omega arith in
    let next : suc at ≡ at + 1 = omega arith in
    let s = step 1 ks at (at + 1) row c.loop-at.rest.now tail target place low is had.1
    c.target_of-target.ensures.only in
    let read = c.in_ok-filing.ensures ∙ filing_read ks at (at + 1) row target tail s in
    let more = filings_step ks at s.k s.taken in (
      elim c.match-branch-2.branch [
        | in-Some+in_ok-push w ↦ rw w.list-is (w.in_ok-push.ensures.items ∙ ap (λ l. l ++ w.in-Some.filing ∷ []) had.0
            ∙ ap (λ o. filings (take at ks) ++ filing_list o) (sym w.in-Some.is ∙ read) ∙ sym more)
        | in_default w ↦ rw w.list-is (had.0 ∙ sym (append-nil (filings (take at ks)))
            ∙ ap (λ o. filings (take at ks) ++ filing_list o) (sym w.in_default.is ∙ read) ∙ sym more)
      ],
      s.tail_is ∙ ap (λ n. joined_from amends_rows (at + 1 + 1) (drop n ks)) next,
    )

pub returns : goal.returns
returns c ks rows amends =
    let had = c.loop-at.invariant ks rows amends in
    had.0 ∙ ap filings (all_taken 1 ks c.loop-at.at (subst (λ l. length l ≤ c.loop-at.at) rows c.loop-at-test.false))
