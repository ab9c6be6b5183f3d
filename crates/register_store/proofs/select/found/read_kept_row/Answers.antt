use Rattle.std.proofs.Common.{rules}
use Rattle.sqlite.specs.Held.{state}
use Rattle.sqlite.specs.State.{HasCleanDisk}
use Rattle.table_rows.proofs.LeavingLemmas.{clean_before, stands}
use Rattle.table_rows.proofs.OutcomeLemmas.{asked_first}
use Rattle.table_rows.specs.Leaving.Ending.{Ended}
use Rattle.register_store.proofs.select.found.read_kept_row.Goals as goal

pub returns-clause-found : goal.returns-clause-found
returns-clause-found g c clean filer key n F was is =
    let was_clean : HasCleanDisk (state g.S.Store c.target_at.new.conn) =
    clean_before c.with_outcome.ensures.leaves clean in
    c.with_outcome.ensures.found clean filer key n F (stands c.in_ok-target.ensures.leaves was_clean was) is
    (c.in_ok-target.ensures.found was_clean n F was is.seq is.k (search (rules, is.seq_is)) is.placed)

pub returns-clause-leaves : goal.returns-clause-leaves
returns-clause-leaves g c =
    asked_first (λ _. Ended) c.with_outcome.result c.in_ok-target.ensures.leaves c.with_outcome.ensures.leaves
