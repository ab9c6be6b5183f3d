use Rattle.std.proofs.Common.{◌≡◌, ◌∷◌, [], pos, IsTrue, Ok, Err, rules, subst, arith, w64}
use Rattle.std.proofs.lemmas.Int.{to_z-of_z}
use Rattle.sqlite.specs.declared.types.Value.TheVariants.{Int}
use Rattle.table_rows.specs.Picking.{Picks}
use Rattle.register_rows.specs.Schema.{filing_table}
use Rattle.register_tables.specs.Reads.{has_second}
use Rattle.xbrl_report.specs.ReportParts.{facts as facts_of}
use Rattle.filing_model.specs.Register.{Kept}
use Rattle.filing_model.specs.Register.Outcome.{Registered}
use Rattle.register_tables.specs.Faults.{table_fault}
use Rattle.register_tables.specs.Reads.{Never}
use Rattle.register_tables.specs.Walk.{IsBeyond}
use Rattle.register_tables.proofs.Ours.{after, asked, concludes, not_read, reads_then}
use Rattle.register_tables.proofs.WalkLemmas.{beyond_registered}
use Rattle.register_tables.proofs.opening.walk.pass_registered.Goals as goal

pub returns-clause-reads : goal.returns-clause-reads
returns-clause-reads g c =
    let one : IsTrue c.in_ok-has_findings.field-0 = search rules in
    let two : IsTrue c.in_ok-has_filings.field-0 = search rules in
    let three : IsTrue c.in_ok-has_facts.field-0 = search rules in
    concludes g.S.Store (λ passed db. (k : Kept) → k.outcome ≡ Registered c.args.left.number
    → c.args.facts.now ≡ facts_of k.request.body → IsBeyond c.args.seq k c.args.left passed db) Never
    c.in_ok-has_facts.field-0 (Ok c.without_filing.result) tt
    (λ db says. (
      beyond_registered c.args.seq c.args.left db c.args.facts.now c.without_filing.result (says.0.0.0 one)
          (subst (λ z. Picks filing_table (has_second c.args.seq) ((Int z ∷ Int (pos c.args.seq) ∷ []) ∷ []) db)
          (to_z-of_z w64 (pos c.args.left.number) (record { sfits = omega (arith, c.requires.number) }))
          (says.0.1.0 two)) (says.1.0 three) c.without_filing.ensures,
      tt,
    ))
    (reads_then g.S.Store c.in_ok-has_filings.field-0 (Ok c.in_ok-has_facts.field-0)
    (reads_then g.S.Store c.in_ok-has_findings.field-0 (Ok c.in_ok-has_filings.field-0)
    (asked g.S.Store c.in_ok-has_findings.field-0 c.in_ok-has_findings.ensures)
    (asked g.S.Store c.in_ok-has_filings.field-0 c.in_ok-has_filings.ensures))
    (asked g.S.Store c.in_ok-has_facts.field-0 c.in_ok-has_facts.ensures))

pub returns-in_err-has_filings-clause-reads : goal.returns-in_err-has_filings-clause-reads
returns-in_err-has_filings-clause-reads g c =
    let why = table_fault c.in_err-has_filings.field-0.0 in
    let told : c.from_residual-in_err-has_filings.result ≡ Err why = search rules in
    rw told (after g.S.Store c.in_ok-has_findings.field-0 (Err why)
    (asked g.S.Store c.in_ok-has_findings.field-0 c.in_ok-has_findings.ensures)
    (not_read g.S.Store _ Never c.in_err-has_filings.field-0.0 c.in_err-has_filings.ensures))

pub returns-in_err-has_facts-clause-reads : goal.returns-in_err-has_facts-clause-reads
returns-in_err-has_facts-clause-reads g c =
    let why = table_fault c.in_err-has_facts.field-0.0 in
    let told : c.from_residual-in_err-has_facts.result ≡ Err why = search rules in
    rw told (after g.S.Store c.in_ok-has_findings.field-0 (Err why)
    (asked g.S.Store c.in_ok-has_findings.field-0 c.in_ok-has_findings.ensures)
    (after g.S.Store c.in_ok-has_filings.field-0 (Err why)
    (asked g.S.Store c.in_ok-has_filings.field-0 c.in_ok-has_filings.ensures)
    (not_read g.S.Store _ Never c.in_err-has_facts.field-0.0 c.in_err-has_facts.ensures)))
