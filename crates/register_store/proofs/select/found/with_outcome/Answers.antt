use Rattle.std.proofs.Common.{rules, ◌≡◌, List, None, sym, ap, ◌∙◌}
use Rattle.xbrl_report.specs.Pair.{Pair}
use Rattle.filing_model.specs.Request.{Request}
use Rattle.filing_model.specs.Register.{Outcome, Kept}
use Rattle.filing_model.specs.Views.{the_request}
use Rattle.register_rows.specs.Register.{number_of, findings_of}
use Rattle.table_rows.proofs.LeavingLemmas.{none_yet, passed}
use Rattle.sqlite.specs.Held.{state}
use Rattle.register_store.proofs.select.found.with_outcome.Goals as goal

-- one without a number was refused, for its findings
refused_for : (o : Outcome) (findings : List Pair) → number_of o ≡ None → findings ≡ findings_of o
    → Outcome.Refused findings ≡ o
refused_for (Outcome.Registered number) findings none are = absurd cc
refused_for (Outcome.Refused found) findings none are = λ i. Outcome.Refused (are i)

kept_is : (k : Kept) (r : Request) (o : Outcome) → k.request ≡ r → o ≡ k.outcome
    → record k { request = r; outcome = o } ≡ k
kept_is k r o asked became = λ i. record { request = sym asked i; outcome = became i }

pub returns-in_ok-findings-in-None-clause-found : goal.returns-in_ok-findings-in-None-clause-found
returns-in_ok-findings-in-None-clause-found g c clean filer key n F was is target_is =
    let none : number_of is.k.outcome ≡ None = sym is.number_is ∙ c.in-None.is in
    let findings_are =
    c.in_ok-findings-in-None.ensures.found clean n F was is.seq is.k (search (rules, is.seq_is)) is.placed in
    kept_is is.k (the_request filer key c.args.target c.args.found.body) _ (is.request
    ∙ ap (λ t. the_request filer key t c.args.found.body) (sym target_is))
    (refused_for is.k.outcome c.in_ok-findings-in-None.findings none findings_are)

pub returns-in-Some-clause-leaves : goal.returns-in-Some-clause-leaves
returns-in-Some-clause-leaves g c = none_yet (state g.S.Store c.args.conn.now)

pub returns-in_ok-findings-in-None-clause-leaves : goal.returns-in_ok-findings-in-None-clause-leaves
returns-in_ok-findings-in-None-clause-leaves g c = passed c.in_ok-findings-in-None.ensures.leaves
