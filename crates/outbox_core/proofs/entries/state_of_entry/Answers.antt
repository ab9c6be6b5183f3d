use Rattle.std.proofs.Common.{sym, ◌∙◌, ap, option_map, rules}
use Rattle.table_rows.proofs.LeavingLemmas.{ended}
use Rattle.outbox_tables.specs.Entries.{entry_at}
use Rattle.outbox_core.specs.Rows.{bare_state_row}
use Rattle.outbox_core.proofs.EntryLemmas.{find_id}
use Rattle.outbox_core.proofs.ReadLemmas.{state_of_row, no_state}
use Rattle.outbox_core.proofs.entries.state_of_entry.Goals as goal

pub returns-in_ok-state_in-in-Some-clause-found : goal.returns-in_ok-state_in-in-Some-clause-found
returns-in_ok-state_in-in-Some-clause-found g c clean it was =
    let found =
    sym c.in-Some.is ∙ c.in_ok-row.ensures.found clean it was
    ∙ ap (option_map bare_state_row) (find_id c.args.id it.entries) in
    state_of_row (entry_at it.entries c.args.id) c.args.id _ _ found c.in_ok-state_in-in-Some.ensures.0
    c.in_ok-state_in-in-Some.ensures.1

pub returns-in-None-clause-found : goal.returns-in-None-clause-found
returns-in-None-clause-found g c clean it was =
    no_state (entry_at it.entries c.args.id) c.args.id (sym c.in-None.is ∙ c.in_ok-row.ensures.found clean it was
    ∙ ap (option_map bare_state_row) (find_id c.args.id it.entries))

pub returns-in_err-row-clause-leaves : goal.returns-in_err-row-clause-leaves
returns-in_err-row-clause-leaves g c = let left = ended c.in_err-row.ensures.leaves in search rules

pub returns-in_err-state_in-in-Some-clause-leaves : goal.returns-in_err-state_in-in-Some-clause-leaves
returns-in_err-state_in-in-Some-clause-leaves g c = let left = ended c.in_ok-row.ensures.leaves in search rules
