use Rattle.std.proofs.Common.{sym, ◌∙◌, rules}
use Rattle.outbox_tables.specs.Entries.{target_at}
use Rattle.table_rows.proofs.LeavingLemmas.{ended}
use Rattle.outbox_core.proofs.TargetReads.{number_read, none_read}
use Rattle.outbox_core.proofs.rows.target_of.Goals as goal

pub returns-in_ok-get-in-Some-clause-found : goal.returns-in_ok-get-in-Some-clause-found
returns-in_ok-get-in-Some-clause-found g c clean it was =
    number_read (target_at it.entries c.args.id) _ _ (sym c.in-Some.is
    ∙ c.in_ok-row.ensures.found clean it was) c.in_ok-get-in-Some.ensures.ok.1

pub returns-in-None-clause-found : goal.returns-in-None-clause-found
returns-in-None-clause-found g c clean it was =
    none_read (target_at it.entries c.args.id) (sym c.in-None.is ∙ c.in_ok-row.ensures.found clean it was)

pub returns-in_err-get-in-Some-clause-leaves : goal.returns-in_err-get-in-Some-clause-leaves
returns-in_err-get-in-Some-clause-leaves g c = let left = ended c.in_ok-row.ensures.leaves in search rules
