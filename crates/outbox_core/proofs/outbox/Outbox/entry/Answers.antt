use Rattle.std.proofs.Common.{rules}
use Rattle.outbox_core.specs.Entries.{found_at}
use Rattle.outbox_core.proofs.LookLemmas.{answers, refuses}
use Rattle.outbox_core.proofs.outbox.Outbox.entry.Goals as goal

pub returns-in-Ok : goal.returns-in-Ok
returns-in-Ok g c =
    rw (← c.self.view_is) (answers g.S.Store _ c.entry_of.new.conn (λ entries. found_at entries c.args.id)
    (search rules) c.in-Ok.entry c.in-Ok.ensures.leaves
    (λ trees alive may. g.met.S.Store.settled c.entry_of.new.conn.store trees alive may) c.in-Ok.ensures.found
    c.in-Ok.ensures.short c.in-Ok.ensures.within)

pub returns-in-Err : goal.returns-in-Err
returns-in-Err g c =
    rw (← c.self.view_is) (refuses g.S.Store _ c.entry_of.new.conn (λ entries. found_at entries c.args.id)
    (search rules) _ c.in-Err.fault c.in-Err.ensures.leaves (search rules))
