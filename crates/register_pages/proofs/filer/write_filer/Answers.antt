use Rattle.std.specs.Prelude.{filter}
use Rattle.std.proofs.Common.{◌∙◌}
use Rattle.filing_model.specs.Register.{kept}
use Rattle.register_tables.proofs.Calls.{refuses}
use Rattle.table_rows.proofs.LeavingLemmas.{asked_then, clean_before, passed, passed_then, stands}
use Rattle.table_rows.specs.Leaving.Ending.{Passed}
use Rattle.register_pages.specs.Pages.{is_refused, sent_by}
use Rattle.register_pages.proofs.Adding.{filer_written, refused_written}
use Rattle.register_pages.proofs.OwnReads.{refused_placed}
use Rattle.register_pages.proofs.filer.write_filer.Goals as goal

pub returns-clause-written : goal.returns-clause-written
returns-clause-written g c clean old_style requests was =
    let filer = c.args.filer.now in
    let filings = c.in_ok-write_filings.ensures in
    let refused = c.in_ok-write_refused.ensures in
    let reports = c.in_ok-write_reports.ensures in
    let third = clean_before reports.leaves clean in
    let second = clean_before refused.leaves third in
    let first = clean_before filings.leaves second in
    let own = c.in_ok-own.ensures.found first old_style requests was in
    let left = passed_then (passed_then (passed c.in_ok-own.ensures.leaves) filings.leaves) refused.leaves in
    let sent = filter is_refused (sent_by filer (kept requests)) in
    filer_written _ _ _ _ _ _ (kept requests) filer _ own filings.written
    (refused_written _ _ _ _ _ _ filer _ sent own.refused refused.written
    (reports.written clean old_style requests (stands left third was) sent (refused_placed filer (kept requests))
    (c.deref.ensures.value ∙ own.refused)))

pub returns-clause-leaves : goal.returns-clause-leaves
returns-clause-leaves g c =
    passed_then (passed_then (passed_then (passed c.in_ok-own.ensures.leaves) c.in_ok-write_filings.ensures.leaves)
    c.in_ok-write_refused.ensures.leaves) c.in_ok-write_reports.ensures.leaves

pub returns-in_err-write_filings-clause-leaves : goal.returns-in_err-write_filings-clause-leaves
returns-in_err-write_filings-clause-leaves g c =
    refuses Passed c.from_residual-in_err-write_filings.result c.from_residual-in_err-write_filings.ensures.0
    (asked_then c.in_ok-own.ensures.leaves c.in_err-write_filings.ensures.leaves)

pub returns-in_err-write_refused-clause-leaves : goal.returns-in_err-write_refused-clause-leaves
returns-in_err-write_refused-clause-leaves g c =
    refuses Passed c.from_residual-in_err-write_refused.result c.from_residual-in_err-write_refused.ensures.0
    (passed_then (passed_then (passed c.in_ok-own.ensures.leaves) c.in_ok-write_filings.ensures.leaves)
    c.in_err-write_refused.ensures.leaves)

pub returns-in_err-write_reports-clause-leaves : goal.returns-in_err-write_reports-clause-leaves
returns-in_err-write_reports-clause-leaves g c =
    refuses Passed c.from_residual-in_err-write_reports.result c.from_residual-in_err-write_reports.ensures.0
    (passed_then (passed_then (passed_then (passed c.in_ok-own.ensures.leaves) c.in_ok-write_filings.ensures.leaves)
    c.in_ok-write_refused.ensures.leaves) c.in_err-write_reports.ensures.leaves)
