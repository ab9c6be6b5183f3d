use Rattle.std.proofs.Common.{◌≡◌, ℕ, ◌+◌, ◌++◌, suc, List, sym, ◌∙◌, subst, drop, drop-cons, get_or, arith}
use Rattle.http_messages.specs.Message.{Arrival, Ending, Read, NoneFollows}
use Rattle.filing_model.specs.declared.served.Mark.{Mark}
use Rattle.filing_model.specs.declared.served.Mark.TheVariants.{Done}
use Rattle.filing_model.specs.Request.{Request}
use Rattle.filing_model.specs.Serving.{AnyFollows}
use Rattle.filing_model.specs.Text.{completed, completed_at}
use Rattle.gateway_requests.specs.Route.{view_message}
use Rattle.gateway_requests.proofs.Completing.{IsAhead, IsFew, AnyMarks, first-covered, all-covered, ahead_none}
use Rattle.gateway_requests.proofs.Completing.{ahead_over, ahead_closed, ahead_more, drop_all}
use Rattle.gateway_requests.proofs.completion.completed.Goals as goal

pub returns-in-None : goal.returns-in-None
returns-in-None c =
    let i = c.loop-mark.mark-index in
    let rest = c.loop-mark.rest.now in
    let list = c.loop-mark.list.items in
    let marks = c.args.marks.now in
    let mark = get_or marks i Done in
    let split = drop-cons marks i Done (omega (arith, c.loop-mark-test.true)) in
    let none = c.in_ok-message.ensures.none c.in-None.is in
    record {
      all = λ arrivals ending has. ahead_over NoneFollows AnyMarks all-covered rest mark (drop (suc i) marks)
          (completed arrivals marks) list
          (subst (λ ms. IsAhead NoneFollows AnyMarks rest ms (completed arrivals marks) list) split
          (c.loop-mark.invariant.all arrivals ending has)) none;
      first = λ arrivals ending begins few. ahead_over AnyFollows IsFew first-covered rest mark (drop (suc i) marks)
          (completed arrivals marks) list
          (subst (λ ms. IsAhead AnyFollows IsFew rest ms (completed arrivals marks) list) split
          (c.loop-mark.invariant.first arrivals ending begins few)) none;
    }

pub returns : goal.returns
returns c =
    let rest = c.loop-mark.rest.now in
    let list = c.loop-mark.list.items in
    let marks = c.args.marks.now in
    let none = drop_all marks c.loop-mark.mark-index (omega (arith, c.loop-mark-test.false)) in
    record {
      all = λ arrivals ending has. ahead_none NoneFollows AnyMarks all-covered rest (completed arrivals marks) list
          (subst (λ ms. IsAhead NoneFollows AnyMarks rest ms (completed arrivals marks) list) none
          (c.loop-mark.invariant.all arrivals ending has));
      first = λ arrivals ending begins few. ahead_none AnyFollows IsFew first-covered rest (completed arrivals marks)
          list (subst (λ ms. IsAhead AnyFollows IsFew rest ms (completed arrivals marks) list) none
          (c.loop-mark.invariant.first arrivals ending begins few));
    }

pub returns-then-closes : goal.returns-then-closes
returns-then-closes c =
    let i = c.loop-mark.mark-index in
    let rest = c.loop-mark.rest.now in
    let list = c.loop-mark.list.items in
    let marks = c.args.marks.now in
    let mark = get_or marks i Done in
    let message = view_message c.in-Some.message in
    let split = drop-cons marks i Done (omega (arith, c.loop-mark-test.true)) in
    let here = rw c.in-Some.is at c.in_ok-message.ensures.some in
    let closing = sym c.closes.ensures ∙ c.if-closes.true in
    let added = c.in_ok-complete-in-Some.ensures in
    record {
      all = λ arrivals ending has. added
          ∙ ahead_closed NoneFollows AnyMarks all-covered rest mark (drop (suc i) marks) (completed arrivals marks) list
          (subst (λ ms. IsAhead NoneFollows AnyMarks rest ms (completed arrivals marks) list) split
          (c.loop-mark.invariant.all arrivals ending has)) message c.in-Some.len here closing;
      first = λ arrivals ending begins few. added
          ∙ ahead_closed AnyFollows IsFew first-covered rest mark (drop (suc i) marks) (completed arrivals marks) list
          (subst (λ ms. IsAhead AnyFollows IsFew rest ms (completed arrivals marks) list) split
          (c.loop-mark.invariant.first arrivals ending begins few)) message c.in-Some.len here closing;
    }

-- the rest and the list of the next mark
moved : (Follows : List ℕ → Ending → Type 0) (Covers : List Mark → List Arrival
    → Type 0) (rest rest' : List ℕ) (marks : List Mark) (n at at' : ℕ) (all list list' : List Request)
    → rest' ≡ drop n rest → list' ≡ list → suc at ≡ at'
    → IsAhead Follows Covers (drop n rest) (drop (suc at) marks) all list
    → IsAhead Follows Covers rest' (drop at' marks) all list'
moved Follows Covers rest rest' marks n at at' all list list' left added next ahead =
    subst (λ k. IsAhead Follows Covers rest' (drop k marks) all list') next
    (subst (λ bs. IsAhead Follows Covers bs (drop (suc at) marks) all list') (sym left)
    (subst (λ l. IsAhead Follows Covers (drop n rest) (drop (suc at) marks) all l) (sym added) ahead))

pub loop-mark-preserved : goal.loop-mark-preserved
loop-mark-preserved c =
    let i = c.loop-mark.mark-index in
    let rest = c.loop-mark.rest.now in
    let list = c.loop-mark.list.items in
    let marks = c.args.marks.now in
    let mark = get_or marks i Done in
    let message = view_message c.in-Some.message in
    let split = drop-cons marks i Done (omega (arith, c.loop-mark-test.true)) in
    let here = rw c.in-Some.is at c.in_ok-message.ensures.some in
    let staying = sym c.closes.ensures ∙ c.if-closes.false in
    let added = c.in_ok-complete-in-Some.ensures in
    let next : suc i ≡ i + 1 = omega arith in
    record {
      all = λ arrivals ending has. moved NoneFollows AnyMarks rest c.after-rest.result.now marks c.in-Some.len i (i + 1)
          (completed arrivals marks) (list ++ completed_at (Read message) mark) c.complete.new.list.items
          c.after-rest.ensures added next
          (ahead_more NoneFollows AnyMarks all-covered rest mark (drop (suc i) marks) (completed arrivals marks) list
          (subst (λ ms. IsAhead NoneFollows AnyMarks rest ms (completed arrivals marks) list) split
          (c.loop-mark.invariant.all arrivals ending has)) message c.in-Some.len here staying);
      first = λ arrivals ending begins few. moved AnyFollows IsFew rest c.after-rest.result.now marks c.in-Some.len i
          (i + 1) (completed arrivals marks) (list ++ completed_at (Read message) mark) c.complete.new.list.items
          c.after-rest.ensures added next
          (ahead_more AnyFollows IsFew first-covered rest mark (drop (suc i) marks) (completed arrivals marks) list
          (subst (λ ms. IsAhead AnyFollows IsFew rest ms (completed arrivals marks) list) split
          (c.loop-mark.invariant.first arrivals ending begins few)) message c.in-Some.len here staying);
    }
