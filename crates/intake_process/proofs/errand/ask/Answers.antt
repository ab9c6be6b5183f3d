use Rattle.intake_process.proofs.Errands.{asks, asks_none}
use Rattle.intake_process.proofs.errand.ask.Goals as goal

pub returns-in-Ok : goal.returns-in-Ok
returns-in-Ok g c =
    asks g.S.Store c.args.question (g.O.Write.contents c.args.output.now) (g.O.Write.contents c.answer.new.output)
    c.args.conn c.in-Ok.store c.answer.result.0 c.answer.result.1 c.in-Ok.ensures c.answer.ensures

pub returns-in-Err : goal.returns-in-Err
returns-in-Err g c =
    asks_none g.S.Store c.args.question (g.O.Write.contents c.args.output.now) c.args.conn c.in-Err.back c.in-Err.fault
    c.in-Err.ensures.back
