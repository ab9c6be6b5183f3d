use Rattle.std.proofs.Common.{arith, ap, Err}
use Rattle.json_tree.specs.View.{view}
use Rattle.xbrl_report.proofs.Judgements.{each_judgement, facts_of_judgement, judgement_of, not_json_refused}
use Rattle.xbrl_report.proofs.FindingLaws.{amendment_findings-exact}
use Rattle.xbrl_report.proofs.Ordered.{ordered-read}
use Rattle.xbrl_report.proofs.Trees.{tree-Some, tree-None}
use Rattle.xbrl_report.proofs.judging.judge_amendment.Goals as goal

pub judge_report-requires : goal.judge_report-requires
judge_report-requires c = ordered-read c.args.body.now _ c.in-Ok.ensures.ok.1

pub returns-in-Ok-clause-judged : goal.returns-in-Ok-clause-judged
returns-in-Ok-clause-judged c =
    let is = tree-Some c.args.body.now (view c.in-Ok.report) c.in-Ok.ensures.ok.0 c.in-Ok.ensures.ok.1 in
    each_judgement c.judge_report.result _ _ (λ judged h. judgement_of c.args.filer.now c.args.body.now c.args.free _
    judged is h) c.judge_report.ensures

pub returns-in-Ok-clause-exact : goal.returns-in-Ok-clause-exact
returns-in-Ok-clause-exact c = amendment_findings-exact c.args.filer.now c.args.body.now c.args.free

pub returns-in-Ok-clause-facts : goal.returns-in-Ok-clause-facts
returns-in-Ok-clause-facts c =
    let is = tree-Some c.args.body.now (view c.in-Ok.report) c.in-Ok.ensures.ok.0 c.in-Ok.ensures.ok.1 in
    each_judgement c.judge_report.result _ _ (λ judged h. facts_of_judgement c.args.filer.now c.args.body.now
    c.args.free _ judged is h) c.judge_report.ensures

pub returns-clause-judged : goal.returns-clause-judged
returns-clause-judged c =
    let refused = tree-None c.args.body.now (c.in-Err-NotJson.ensures.not_json (ap Err c.in-Err-NotJson.field-0-is)) in
    rw c.in_ok-alone-in-Err-NotJson.ensures (
      not_json_refused c.args.filer.now c.args.body.now c.args.free refused,
      omega arith,
    )

pub returns-in-Err-Memory-clause-exact : goal.returns-in-Err-Memory-clause-exact
returns-in-Err-Memory-clause-exact c = amendment_findings-exact c.args.filer.now c.args.body.now c.args.free

pub returns-in_err-alone-in-Err-NotJson-clause-exact : goal.returns-in_err-alone-in-Err-NotJson-clause-exact
returns-in_err-alone-in-Err-NotJson-clause-exact c =
    amendment_findings-exact c.args.filer.now c.args.body.now c.args.free

pub returns-clause-exact : goal.returns-clause-exact
returns-clause-exact c = amendment_findings-exact c.args.filer.now c.args.body.now c.args.free
