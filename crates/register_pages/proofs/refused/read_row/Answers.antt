use Rattle.table_rows.proofs.LeavingLemmas.{asked_then, passed}
use Rattle.register_pages.proofs.refused.read_row.Goals as goal

pub returns-clause-leaves : goal.returns-clause-leaves
returns-clause-leaves g c =
    passed (asked_then c.in_ok-sent.ensures.leaves (asked_then c.in_ok-received.ensures.leaves
    (asked_then c.in_ok-findings.ensures c.in_ok-target.ensures)))
