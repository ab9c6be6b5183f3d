use Rattle.std.proofs.Common.{refl}
use Rattle.schedule.proofs.ends.outboxes.WriteRequestCall.on.Goals as goal

pub returns-in-Ok-clause-answer : goal.returns-in-Ok-clause-answer
returns-in-Ok-clause-answer g c =
    λ entries has. c.in-Ok.ensures.built (g.met.S.Faithful.faithful c.request_bytes.new.outbox.conn) entries has

pub returns-in-Ok-clause-rows : goal.returns-in-Ok-clause-rows
returns-in-Ok-clause-rows g c = c.request_bytes.ensures.kept (g.met.S.Faithful.faithful c.request_bytes.new.outbox.conn)

pub returns-in-Err-NoEntry-clause-answer : goal.returns-in-Err-NoEntry-clause-answer
returns-in-Err-NoEntry-clause-answer g c = λ entries has.
    let none =
    c.in-Err-NoEntry.ensures.no_entry (g.met.S.Faithful.faithful c.request_bytes.new.outbox.conn) entries has
    (cc c.in-Err-NoEntry.field-0-is) in
    rw none refl

pub returns-in-Err-NoEntry-clause-rows : goal.returns-in-Err-NoEntry-clause-rows
returns-in-Err-NoEntry-clause-rows g c =
    c.request_bytes.ensures.kept (g.met.S.Faithful.faithful c.request_bytes.new.outbox.conn)

pub returns-in-Err-Memory-clause-rows : goal.returns-in-Err-Memory-clause-rows
returns-in-Err-Memory-clause-rows g c =
    c.request_bytes.ensures.kept (g.met.S.Faithful.faithful c.request_bytes.new.outbox.conn)

pub returns-in-Err-Store-clause-rows : goal.returns-in-Err-Store-clause-rows
returns-in-Err-Store-clause-rows g c =
    c.request_bytes.ensures.kept (g.met.S.Faithful.faithful c.request_bytes.new.outbox.conn)
