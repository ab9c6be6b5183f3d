use Rattle.sqlite.specs.Held.{state}
use Rattle.table_rows.proofs.LeavingLemmas.{none_yet, passed}
use Rattle.outbox_core.proofs.entries.read_found.Goals as goal

pub returns-in_ok-read_entry-in-Some-clause-leaves : goal.returns-in_ok-read_entry-in-Some-clause-leaves
returns-in_ok-read_entry-in-Some-clause-leaves g c = passed c.in_ok-read_entry-in-Some.ensures.leaves

pub returns-in-None-clause-leaves : goal.returns-in-None-clause-leaves
returns-in-None-clause-leaves g c = none_yet (state g.S.Store c.args.conn.now)
