use Rattle.std.proofs.Common.{None, refl}
use Rattle.filing_model.specs.Views.{view_state}
use Rattle.http_wire.specs.Memory.{bytes_left}
use Rattle.schedule.proofs.Hearing.{moves_as_heard, hears_none}
use Rattle.schedule.proofs.ends.outboxes.HearReplyCall.on.Goals as goal

pub returns-in-Ok-clause-answer : goal.returns-in-Ok-clause-answer
returns-in-Ok-clause-answer g c = λ entries has what here.
    let moved = c.in-Ok.ensures.moved (g.met.S.Faithful.faithful c.hand_over.new.outbox.conn) entries has in
    moves_as_heard c.args.self.bytes.now (bytes_left c.new-reader.result) (bytes_left c.hand_over.new.reader) entries
    c.args.self.number (view_state c.in-Ok.state) c.new-reader.ensures moved.0 what here

pub returns-in-Ok-clause-rows : goal.returns-in-Ok-clause-rows
returns-in-Ok-clause-rows g c = λ entries has.
    (c.in-Ok.ensures.moved (g.met.S.Faithful.faithful c.hand_over.new.outbox.conn) entries has).1

pub returns-in-Some-clause-rows : goal.returns-in-Some-clause-rows
returns-in-Some-clause-rows g c = λ entries has.
    c.in-Err.ensures.kept (g.met.S.Faithful.faithful c.hand_over.new.outbox.conn) entries has

pub returns-in-None-clause-answer : goal.returns-in-None-clause-answer
returns-in-None-clause-answer g c = λ entries has what here. (
  None,
  hears_none c.args.self.bytes.now (bytes_left c.new-reader.result) (bytes_left c.hand_over.new.reader) c.in-Err.fault
      c.new-reader.ensures c.in-Err.ensures.fault c.in-None.ensures,
  refl,
)

pub returns-in-None-clause-rows : goal.returns-in-None-clause-rows
returns-in-None-clause-rows g c = λ entries has.
    c.in-Err.ensures.kept (g.met.S.Faithful.faithful c.hand_over.new.outbox.conn) entries has
