use Rattle.std.proofs.Common.{sym, subst, subst₂}
use Rattle.std.proofs.lemmas.Result.{IfOk-weaker}
use Rattle.xbrl_report.specs.Judgement.{IsAmendmentJudgement}
use Rattle.filing_model.specs.Register.{is_free, kept, register}
use Rattle.register_rows.proofs.MoreRequests.{judged_as}
use Rattle.register_rows.proofs.filed.Filed.judge.Goals as goal

pub returns-clause-judged : goal.returns-clause-judged
returns-clause-judged c F r are filer target body =
    IfOk-weaker c.judge_amendment.result _ _ (λ j is.
    judged_as (kept F) r j
    (subst (λ b. IsAmendmentJudgement r.filer b (is_free (register F) r.filer r.target) j) (sym body)
    (subst₂ (λ f t. IsAmendmentJudgement f c.args.body.now (is_free (register F) f t) j) (sym filer) (sym target)
    (subst (λ free. IsAmendmentJudgement c.args.filer.now c.args.body.now free j) (c.is_free.ensures F are) is))))
    c.judge_amendment.ensures.judged
