use Rattle.std.proofs.lemmas.Result.{on_ok_weaker}
use Rattle.table_rows.proofs.LeavingLemmas.{clean_before, stands}
use Rattle.register_pages.proofs.Adding.{writes_then}
use Rattle.register_pages.proofs.site.write_reports.Goals as goal

pub returns-clause-written : goal.returns-clause-written
returns-clause-written g c clean old_style requests was are =
    let then = c.write_filers.ensures in
    let first = c.in_ok-write_filings.ensures in
    let between = clean_before then.leaves clean in
    on_ok_weaker c.write_filers.result (λ w. writes_then _ _ _ _ _ _ _ _
    (first.written between old_style requests was are) w)
    (then.written clean old_style requests (stands first.leaves between was))
