use Rattle.std.proofs.Common.{not, ap, ◌∙◌}
use Rattle.outbox_core.proofs.FoundLemmas.{opened}
use Rattle.outbox_core.proofs.outbox.Outbox.open_or_back.Goals as goal

pub returns : goal.returns
returns g c =
    let settled =
    c.is_autocommit.ensures.settled (c.is_autocommit.ensures.value
    ∙ ap not c.read_outbox-found.ensures.autocommit) in
    rw c.over.ensures (opened g.S.Store c.args.conn c.read_outbox-found.new.conn c.requires.unlimited settled
    c.read_outbox-found.result (λ trees alive may. g.met.S.Store.settled c.read_outbox-found.new.conn.store trees
    alive may) c.read_outbox-found.ensures)
