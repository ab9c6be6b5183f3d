use Rattle.sqlite.specs.Held.{state}
use Rattle.sqlite.specs.State.{HasCleanDisk}
use Rattle.register_store.proofs.ListLemmas.{knows, knows_all, kept_read, amends_read}
use Rattle.table_rows.proofs.LeavingLemmas.{asked_then, clean_before, ended, stands}
use Rattle.register_tables.proofs.Calls.{refuses}
use Rattle.table_rows.specs.Leaving.Ending.{Asked}
use Rattle.register_store.proofs.select.lists.read_both.Goals as goal

pub returns-clause-read : goal.returns-clause-read
returns-clause-read g c clean e F was =
    let old = state g.S.Store c.args.conn.now in
    let mid = state g.S.Store c.kept_rows.new.conn in
    let new = state g.S.Store c.amends_rows.new.conn in
    let was_clean : HasCleanDisk mid = clean_before c.amends_rows.ensures.leaves clean in
    let first = c.in_ok-kept.ensures.read was_clean (knows F old was) in
    let still = stands c.in_ok-kept.ensures.leaves was_clean was in (
      (was.now first.same.0.was_open).rows.distinct,
      kept_read F old mid _ was first,
      amends_read F mid new _ still (c.in_ok-amends.ensures.read clean (knows_all F mid still)),
    )

pub returns-clause-leaves : goal.returns-clause-leaves
returns-clause-leaves g c = asked_then c.in_ok-kept.ensures.leaves c.in_ok-amends.ensures.leaves

pub returns-in_err-amends-clause-leaves : goal.returns-in_err-amends-clause-leaves
returns-in_err-amends-clause-leaves g c =
    refuses Asked c.from_residual-in_err-amends.result c.from_residual-in_err-amends.ensures.0
    (ended (asked_then c.in_ok-kept.ensures.leaves c.in_err-amends.ensures.leaves))
