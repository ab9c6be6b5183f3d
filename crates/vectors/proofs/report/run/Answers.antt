use Rattle.std.proofs.Common.{◌≡◌, ℕ, List, map, filter, sym, ap, ◌∙◌, subst}
use Rattle.std.proofs.lemmas.Result.{IfOk-weaker}
use Rattle.vectors.specs.declared.report.Outcome.{Outcome}
use Rattle.vectors.specs.Report.{AreSomeOf, fails}
use Rattle.vectors.proofs.Some.{some_of}
use Rattle.vectors.proofs.report.run.Goals as goal

pub returns-clause-failed : goal.returns-clause-failed
returns-clause-failed c =
    let outcomes = c.as_slice.result.now in
    let numbers : map (λ (o : Outcome). o.number) outcomes ≡ c.args.numbers.now =
    ap (map (λ (o : Outcome). o.number)) c.as_slice.ensures.value ∙ c.in_ok-outcomes.ensures.numbers in
    let some =
    subst (λ (ns : List ℕ). AreSomeOf ns (map (λ (o : Outcome). o.number) (filter fails outcomes))) numbers
    (some_of (λ o. o.number) fails outcomes) in
    IfOk-weaker c.report_of.result _ _ (λ report failed. subst (AreSomeOf c.args.numbers.now) (sym failed) some)
    c.report_of.ensures.failed
