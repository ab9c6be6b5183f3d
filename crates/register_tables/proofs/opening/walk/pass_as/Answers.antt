use Rattle.std.proofs.Common.{◌≡◌, None, refl, rules}
use Rattle.xbrl_report.specs.ReportParts.{facts as facts_of}
use Rattle.filing_model.specs.Register.Outcome.{Registered, Refused}
use Rattle.register_rows.specs.Columns.{request_in}
use Rattle.register_rows.specs.Outcomes.{request_outcome}
use Rattle.register_tables.proofs.Ours.{answers}
use Rattle.register_tables.proofs.WalkLemmas.{past_row}
use Rattle.register_tables.proofs.opening.walk.pass_as.Goals as goal

pub returns-then-is_kept_row-clause-reads : goal.returns-then-is_kept_row-clause-reads
returns-then-is_kept_row-clause-reads g c =
    let row = c.args.row.now in
    let number = c.args.left.number in
    let has : c.facts.result.now ≡ facts_of (request_in None row).body = search rules in
    rw c.in-Valid.is (answers g.S.Store _ c.pass_registered.result
    (λ passed db h target.
    past_row c.args.seq row (request_outcome (request_in target row) (Registered number)) c.args.left passed db
    (c.is_kept_row.ensures.0 c.if-is_kept_row.true)
    (h (request_outcome (request_in target row) (Registered number)) refl has)) c.pass_registered.ensures.reads)

pub returns-then-is_kept_row-2-clause-reads : goal.returns-then-is_kept_row-2-clause-reads
returns-then-is_kept_row-2-clause-reads g c =
    let row = c.args.row.now in
    let found = c.list.result.now in
    let same : found ≡ c.in-Refused.findings = search rules in
    rw (c.in-Refused.is, ← same) (answers g.S.Store _ c.pass_refused.result
    (λ passed db h target.
    past_row c.args.seq row (request_outcome (request_in target row) (Refused found)) c.args.left passed db
    (c.is_kept_row-in-Refused.ensures.0 c.if-is_kept_row-2.true)
    (h (request_outcome (request_in target row) (Refused found)) refl)) c.pass_refused.ensures.reads)
