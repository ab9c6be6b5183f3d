use Rattle.std.proofs.Common.{Ok, Err}
use Rattle.outbox_process.proofs.Trying.{exchanged}
use Rattle.outbox_process.proofs.tasks.sending.exchange_once.Goals as goal

pub returns-in-Ok-came : goal.returns-in-Ok-came
returns-in-Ok-came g c =
    exchanged g.S.Store g.N.Reader.Source g.N.Writer.Sink (g.N.Dial.traffic c.args.network.now)
    (g.N.Dial.traffic c.connect.new.self) (g.N.Dial.traffic c.end.new.self)
    c.args.outbox.now c.exchange-came.new.outbox c.args.id c.in-Ok.reader c.exchange-came.new.reader c.in-Ok.writer
    c.exchange-came.new.writer (Ok c.in-Ok-came.state)
    (rw c.in-Ok.is at c.connect.ensures) (rw c.in-Ok-came.is at c.exchange-came.ensures) c.end.ensures.coming
    (rw c.in-Ok-came.is at c.end.ensures.over)

pub returns-in-Err-came : goal.returns-in-Err-came
returns-in-Err-came g c =
    exchanged g.S.Store g.N.Reader.Source g.N.Writer.Sink (g.N.Dial.traffic c.args.network.now)
    (g.N.Dial.traffic c.connect.new.self) (g.N.Dial.traffic c.end.new.self)
    c.args.outbox.now c.exchange-came.new.outbox c.args.id c.in-Ok.reader c.exchange-came.new.reader c.in-Ok.writer
    c.exchange-came.new.writer (Err c.in-Err-came.fault)
    (rw c.in-Ok.is at c.connect.ensures) (rw c.in-Err-came.is at c.exchange-came.ensures) c.end.ensures.coming
    (rw c.in-Err-came.is at c.end.ensures.over)
