use Rattle.std.proofs.Common.{not, ap, ◌∙◌}
use Rattle.outbox_core.proofs.FoundLemmas.{migrated}
use Rattle.outbox_core.proofs.outbox.Outbox.migrate_or_back.Goals as goal

pub returns : goal.returns
returns g c =
    let settled =
    c.is_autocommit.ensures.settled (c.is_autocommit.ensures.value
    ∙ ap not c.migrate_outbox-found.ensures.autocommit) in
    rw c.over.ensures (migrated g.S.Store c.args.conn c.migrate_outbox-found.new.conn c.requires.unlimited settled
    c.migrate_outbox-found.result c.migrate_outbox-found.ensures)
