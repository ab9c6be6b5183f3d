use Rattle.std.proofs.Common.{sym, length}
use Rattle.http_messages.specs.Head.{max_body_len}
use Rattle.schedule.proofs.OutboxEntries.{takes_new, takes_no_long, takes_no_used, short_enough}
use Rattle.schedule.proofs.ends.outboxes.PutCall.on.Goals as goal

pub returns-in-Ok-clause-answer : goal.returns-in-Ok-clause-answer
returns-in-Ok-clause-answer g c = λ entries has.
    let none = c.in-Ok.ensures.unused (g.met.S.Faithful.faithful c.put.new.self.conn) entries has in
    let short =
    short_enough c.args.outbox.now.has_failed (length c.in_ok-body.body.items) max_body_len
    (λ failed. cc (c.in-Ok.ensures.stopped failed).0) (λ long. cc (c.in-Ok.ensures.too_large.1 long)) in
    rw (← c.in_ok-key.ensures.same, ← c.in_ok-body.ensures.items)
    (sym (takes_new c.args.outbox.now.filer entries c.in_ok-key.key c.args.self.target c.in_ok-body.body.items short
    none))

pub returns-in-Ok-clause-rows : goal.returns-in-Ok-clause-rows
returns-in-Ok-clause-rows g c = λ entries has.
    let added = c.in-Ok.ensures.added (g.met.S.Faithful.faithful c.put.new.self.conn) entries has in
    rw (← c.in_ok-key.ensures.same, ← c.in_ok-body.ensures.items) added.1

pub returns-in-Err-TooLarge-clause-answer : goal.returns-in-Err-TooLarge-clause-answer
returns-in-Err-TooLarge-clause-answer g c = λ entries has.
    let long = (c.in-Err-TooLarge.ensures.too_large.0 (cc c.in-Err-TooLarge.field-0-is)).1 in
    rw (← c.in_ok-key.ensures.same, ← c.in_ok-body.ensures.items)
    (sym (takes_no_long c.args.outbox.now.filer entries c.in_ok-key.key c.args.self.target c.in_ok-body.body.items
    long))

pub returns-in-Err-TooLarge-clause-rows : goal.returns-in-Err-TooLarge-clause-rows
returns-in-Err-TooLarge-clause-rows g c = λ entries has.
    c.in-Err-TooLarge.ensures.kept (g.met.S.Faithful.faithful c.put.new.self.conn) entries has

pub returns-in-Err-KeyUsed-clause-answer : goal.returns-in-Err-KeyUsed-clause-answer
returns-in-Err-KeyUsed-clause-answer g c = λ entries has.
    let found =
    c.in-Err-KeyUsed.ensures.used (g.met.S.Faithful.faithful c.put.new.self.conn) entries has
    c.in-Err-KeyUsed.field-0-0 (cc c.in-Err-KeyUsed.field-0-is) in
    rw (← c.in_ok-key.ensures.same, ← c.in_ok-body.ensures.items)
    (sym (takes_no_used c.args.outbox.now.filer entries c.in_ok-key.key c.args.self.target c.in_ok-body.body.items
    c.in-Err-KeyUsed.field-0-0 found))

pub returns-in-Err-KeyUsed-clause-rows : goal.returns-in-Err-KeyUsed-clause-rows
returns-in-Err-KeyUsed-clause-rows g c = λ entries has.
    c.in-Err-KeyUsed.ensures.kept (g.met.S.Faithful.faithful c.put.new.self.conn) entries has

pub returns-in-Err-Memory-clause-rows : goal.returns-in-Err-Memory-clause-rows
returns-in-Err-Memory-clause-rows g c = λ entries has.
    c.in-Err-Memory.ensures.kept (g.met.S.Faithful.faithful c.put.new.self.conn) entries has

pub returns-in-Err-Store-clause-rows : goal.returns-in-Err-Store-clause-rows
returns-in-Err-Store-clause-rows g c = λ entries has.
    c.in-Err-Store.ensures.kept (g.met.S.Faithful.faithful c.put.new.self.conn) entries has
