use Rattle.outbox_process.proofs.Asked.{replied, not_replied}
use Rattle.outbox_process.proofs.tasks.asking.ask_once.Goals as goal

pub returns-in-Ok-ask_on : goal.returns-in-Ok-ask_on
returns-in-Ok-ask_on g c =
    replied g.N.Reader.Source g.N.Writer.Sink (g.N.Dial.traffic c.args.network.now)
    (g.N.Dial.traffic c.connect.new.self) (g.N.Dial.traffic c.end.new.self) c.args.id
    c.args.state c.args.request.now c.in-Ok.reader c.ask_on.new.reader c.in-Ok.writer
    c.ask_on.new.writer (rw c.in-Ok.is at c.connect.ensures)
    c.end.ensures.coming c.in-Ok-ask_on.reply c.in-Ok-ask_on.ensures.written
    c.in-Ok-ask_on.ensures.heard c.end.ensures.over

pub returns-in-Err-ask_on : goal.returns-in-Err-ask_on
returns-in-Err-ask_on g c =
    not_replied g.N.Reader.Source g.N.Writer.Sink (g.N.Dial.traffic c.args.network.now)
    (g.N.Dial.traffic c.connect.new.self) (g.N.Dial.traffic c.end-in-Err-ask_on.new.self) c.args.id
    c.args.state c.args.request.now c.in-Ok.reader c.ask_on.new.reader c.in-Ok.writer
    c.ask_on.new.writer (rw c.in-Ok.is at c.connect.ensures)
    c.end-in-Err-ask_on.ensures.coming c.in-Err-ask_on.fault
    c.in-Err-ask_on.ensures.written c.in-Err-ask_on.ensures.fault c.end-in-Err-ask_on.ensures.over
