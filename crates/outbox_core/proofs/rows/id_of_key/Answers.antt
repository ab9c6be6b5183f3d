use Rattle.std.proofs.Common.{sym, ◌∙◌, find, rules}
use Rattle.table_rows.proofs.LeavingLemmas.{ended}
use Rattle.outbox_core.specs.Entries.{has_text}
use Rattle.outbox_tables.specs.Entries.{numbered}
use Rattle.outbox_core.proofs.ReadLemmas.{id_shown, none_shown}
use Rattle.outbox_core.proofs.rows.id_of_key.Goals as goal

pub returns-in_ok-get-in-Some-clause-found : goal.returns-in_ok-get-in-Some-clause-found
returns-in_ok-get-in-Some-clause-found g c clean it was =
    id_shown (find (has_text c.args.key.now) (numbered it.entries)) _ _ (sym c.in-Some.is
    ∙ c.in_ok-row.ensures.found clean it was) c.in_ok-get-in-Some.ensures.ok.1

pub returns-in-None-clause-found : goal.returns-in-None-clause-found
returns-in-None-clause-found g c clean it was =
    none_shown (λ x. x.0) (find (has_text c.args.key.now) (numbered it.entries)) (sym c.in-None.is
    ∙ c.in_ok-row.ensures.found clean it was)

pub returns-in_err-get-in-Some-clause-leaves : goal.returns-in_err-get-in-Some-clause-leaves
returns-in_err-get-in-Some-clause-leaves g c = let left = ended c.in_ok-row.ensures.leaves in search rules
