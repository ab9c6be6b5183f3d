use Rattle.table_rows.proofs.LeavingLemmas.{clean_before, passed_then, stands}
use Rattle.register_pages.specs.Gathering.{codes_of}
use Rattle.register_pages.proofs.Adding.{site_written}
use Rattle.register_pages.proofs.site.write_all.Goals as goal

pub returns-clause-written : goal.returns-clause-written
returns-clause-written g c clean old_style requests was are =
    let last = c.write_site.ensures in
    let second = c.in_ok-about.ensures in
    let first = c.in_ok-gather.ensures in
    let then = clean_before last.leaves clean in
    let between = clean_before second.leaves then in
    let gathered = first.gathered between old_style requests was are c.new-filers.ensures in
    site_written requests _ _ (codes_of c.gather.new.filers) c.write_site.result gathered.each last.ascend
    (last.written clean old_style requests (stands (passed_then first.leaves second.leaves) then was) are)
