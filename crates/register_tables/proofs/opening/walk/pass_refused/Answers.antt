use Rattle.std.proofs.Common.{◌≡◌, IsTrue, Ok, Err, rules}
use Rattle.filing_model.specs.Register.{Kept}
use Rattle.filing_model.specs.Register.Outcome.{Refused}
use Rattle.register_tables.specs.Faults.{table_fault}
use Rattle.register_tables.specs.Reads.{Never}
use Rattle.register_tables.specs.Walk.{IsBeyond}
use Rattle.register_tables.proofs.Ours.{after, asked, concludes, not_read, reads_then}
use Rattle.register_tables.proofs.WalkLemmas.{beyond_refused}
use Rattle.register_tables.proofs.opening.walk.pass_refused.Goals as goal

pub returns-clause-reads : goal.returns-clause-reads
returns-clause-reads g c =
    let one : IsTrue c.in_ok-has_findings.field-0 = search rules in
    let two : IsTrue c.in_ok-has_filings.field-0 = search rules in
    concludes g.S.Store (λ passed db. (k : Kept) → k.outcome ≡ Refused c.args.findings.now
    → IsBeyond c.args.seq k c.args.left passed db) Never c.in_ok-has_filings.field-0 (Ok c.without_findings.result) tt
    (λ db says. (
      beyond_refused c.args.seq c.args.left db c.args.findings.now c.without_findings.result (says.0.0 one)
          (says.1.0 two) c.without_findings.ensures,
      tt,
    ))
    (reads_then g.S.Store c.in_ok-has_findings.field-0 (Ok c.in_ok-has_filings.field-0)
    (asked g.S.Store c.in_ok-has_findings.field-0 c.in_ok-has_findings.ensures)
    (asked g.S.Store c.in_ok-has_filings.field-0 c.in_ok-has_filings.ensures))

pub returns-in_err-has_filings-clause-reads : goal.returns-in_err-has_filings-clause-reads
returns-in_err-has_filings-clause-reads g c =
    let why = table_fault c.in_err-has_filings.field-0.0 in
    let told : c.from_residual-in_err-has_filings.result ≡ Err why = search rules in
    rw told (after g.S.Store c.in_ok-has_findings.field-0 (Err why)
    (asked g.S.Store c.in_ok-has_findings.field-0 c.in_ok-has_findings.ensures)
    (not_read g.S.Store _ Never c.in_err-has_filings.field-0.0 c.in_err-has_filings.ensures))
