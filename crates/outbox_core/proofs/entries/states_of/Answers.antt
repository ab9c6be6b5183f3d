use Rattle.std.proofs.Common.{map, ◌∙◌, ap, rules}
use Rattle.table_rows.proofs.LeavingLemmas.{ended}
use Rattle.table_rows.proofs.OutcomeLemmas.{concluded}
use Rattle.table_rows.proofs.ResultLemmas.{if_ok}
use Rattle.outbox_tables.specs.Entries.{numbered}
use Rattle.outbox_core.specs.Reading.{state_told}
use Rattle.outbox_core.proofs.ReadLemmas.{told_rows}
use Rattle.outbox_core.proofs.entries.states_of.Goals as goal

pub returns-clause-found : goal.returns-clause-found
returns-clause-found g c clean it was =
    let rows = c.in_ok-rows.ensures.found clean it was in
    if_ok c.read_states.result _ _ (λ states told. told
    ∙ rw c.as_slice.ensures.value (ap (map state_told) rows ∙ told_rows (numbered it.entries)))
    c.read_states.ensures

pub returns-clause-leaves : goal.returns-clause-leaves
returns-clause-leaves g c = concluded c.read_states.result c.in_ok-rows.ensures.leaves

pub returns-in_err-rows-clause-leaves : goal.returns-in_err-rows-clause-leaves
returns-in_err-rows-clause-leaves g c = let left = ended c.in_err-rows.ensures.leaves in search rules
