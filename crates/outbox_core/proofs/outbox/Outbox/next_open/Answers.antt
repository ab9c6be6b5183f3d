use Rattle.std.proofs.Common.{rules}
use Rattle.outbox_core.specs.Entries.{first_open}
use Rattle.outbox_core.proofs.LookLemmas.{answers, refuses}
use Rattle.outbox_core.proofs.outbox.Outbox.next_open.Goals as goal

pub returns-in-Ok : goal.returns-in-Ok
returns-in-Ok g c =
    rw (← c.self.view_is) (answers g.S.Store _ c.open_entry.new.conn first_open (search rules) c.in-Ok.entry
    c.in-Ok.ensures.leaves
    (λ trees alive may. g.met.S.Store.settled c.open_entry.new.conn.store trees alive may) c.in-Ok.ensures.found
    c.in-Ok.ensures.short c.in-Ok.ensures.within)

pub returns-in-Err : goal.returns-in-Err
returns-in-Err g c =
    rw (← c.self.view_is) (refuses g.S.Store _ c.open_entry.new.conn first_open (search rules) _ c.in-Err.fault
    c.in-Err.ensures.leaves (search rules))
