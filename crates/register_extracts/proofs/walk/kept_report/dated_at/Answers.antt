use Rattle.sqlite.specs.Held.{state}
use Rattle.sqlite.specs.State.{HasCleanDisk}
use Rattle.register_tables.proofs.Calls.{refuses}
use Rattle.table_rows.proofs.LeavingLemmas.{asked_then, clean_before, stands}
use Rattle.table_rows.specs.Leaving.Ending.{Asked}
use Rattle.register_extracts.proofs.walk.kept_report.dated_at.Goals as goal

pub returns-clause-found : goal.returns-clause-found
returns-clause-found g c clean e F was moments one_each dated k placed =
    let before : HasCleanDisk (state g.S.Store c.moment_at.new.conn) = clean_before c.in_ok-sent.ensures.leaves clean
    in (
      c.in_ok-sent.ensures.found clean e F (stands c.in_ok-received.ensures.leaves before was) k placed,
      c.in_ok-received.ensures.found before e F was moments one_each dated,
    )

pub returns-clause-leaves : goal.returns-clause-leaves
returns-clause-leaves g c = asked_then c.in_ok-received.ensures.leaves c.in_ok-sent.ensures.leaves

pub returns-in_err-sent-clause-leaves : goal.returns-in_err-sent-clause-leaves
returns-in_err-sent-clause-leaves g c =
    refuses Asked c.from_residual-in_err-sent.result c.from_residual-in_err-sent.ensures.0
    (asked_then c.in_ok-received.ensures.leaves c.in_err-sent.ensures.leaves)
