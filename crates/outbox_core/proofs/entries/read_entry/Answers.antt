use Rattle.std.proofs.Common.{◌≡◌, ap, ◌∙◌, rules}
use Rattle.sqlite.specs.Held.{state}
use Rattle.table_rows.proofs.LeavingLemmas.{ended, none_yet}
use Rattle.table_rows.proofs.OutcomeLemmas.{concluded}
use Rattle.outbox_tables.specs.Entries.{entry_at, target_at}
use Rattle.outbox_core.proofs.ReadLemmas.{read_as, id_in, target_there}
use Rattle.outbox_core.proofs.entries.read_entry.Goals as goal

pub returns-clause-read : goal.returns-clause-read
returns-clause-read g c clean it was x is there =
    let id : c.in_ok-id.id ≡ x.0 = id_in x c.args.row.now c.in_ok-id.id is c.in_ok-id.ensures.ok.1 in
    let target =
    c.in_ok-target.ensures.found clean it was ∙ ap (target_at it.entries) id
    ∙ target_there (entry_at it.entries x.0) x.1 there in
    read_as c.from_row.result x c.args.row.now c.in_ok-target.target is target c.from_row.ensures.shown
    c.from_row.ensures.target

pub returns-clause-leaves : goal.returns-clause-leaves
returns-clause-leaves g c = concluded c.from_row.result c.in_ok-target.ensures.leaves

pub returns-in_err-id-clause-leaves : goal.returns-in_err-id-clause-leaves
returns-in_err-id-clause-leaves g c = let left = ended (none_yet (state g.S.Store c.args.conn.now)) in search rules

pub returns-then-id-ge-ID_LIMIT-clause-leaves : goal.returns-then-id-ge-ID_LIMIT-clause-leaves
returns-then-id-ge-ID_LIMIT-clause-leaves g c = ended (none_yet (state g.S.Store c.args.conn.now))
