use Rattle.std.proofs.Common.{rules}
use Rattle.table_rows.proofs.LeavingLemmas.{clean_before, ended, stands}
use Rattle.table_rows.specs.Leaving.Ending.{Ended}
use Rattle.table_rows.proofs.OutcomeLemmas.{asked_first}
use Rattle.outbox_core.proofs.EntryLemmas.{found_at}
use Rattle.outbox_core.specs.Entries.{is_open}
use Rattle.outbox_core.proofs.entries.open_entry.Goals as goal

pub returns-clause-found : goal.returns-clause-found
returns-clause-found g c clean it was =
    let was_clean = clean_before c.read_found.ensures.leaves clean in
    c.read_found.ensures.read clean it (stands c.first_open_entry.ensures.leaves was_clean was) _
    (c.in_ok-row.ensures.found was_clean it was) (found_at is_open it.entries)

pub returns-clause-leaves : goal.returns-clause-leaves
returns-clause-leaves g c =
    asked_first (λ _. Ended) c.read_found.result c.in_ok-row.ensures.leaves c.read_found.ensures.leaves

pub returns-in_err-row-clause-leaves : goal.returns-in_err-row-clause-leaves
returns-in_err-row-clause-leaves g c = let left = ended c.in_err-row.ensures.leaves in search rules
