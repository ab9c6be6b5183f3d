use Rattle.std.proofs.Common.{Ok, Err, None, refl, inl, inr}
use Rattle.std.proofs.lemmas.Result.{err_from_is_err_and}
use Rattle.outbox_process.proofs.Sendings.{sent_first, sent_none}
use Rattle.outbox_process.proofs.tasks.sending.send_next.Goals as goal

pub returns-in-Ok : goal.returns-in-Ok
returns-in-Ok g c =
    inl (sent_first g.S.Store (g.N.Dial.traffic c.args.network.now) (g.N.Dial.traffic c.send_open.new.network)
    c.args.outbox.now c.next_open.new.self c.send_open.new.outbox (g.O.Write.contents c.args.output.now)
    (g.O.Write.contents c.send_open.new.output) c.in-Some.entry (Ok c.in-Ok.state)
    (rw c.in-Some.is at c.in_ok-entry.ensures) (rw c.in-Ok.is at c.send_open.ensures))

pub returns-in-Some : goal.returns-in-Some
returns-in-Some g c =
    inl (sent_first g.S.Store (g.N.Dial.traffic c.args.network.now) (g.N.Dial.traffic c.send_open.new.network)
    c.args.outbox.now c.next_open.new.self c.send_open.new.outbox (g.O.Write.contents c.args.output.now)
    (g.O.Write.contents c.send_open.new.output) c.in-Some.entry (Err c.in-Err.why)
    (rw c.in-Some.is at c.in_ok-entry.ensures) (rw c.in-Err.is at c.send_open.ensures))

pub returns-in_err-print_none-in-None : goal.returns-in_err-print_none-in-None
returns-in_err-print_none-in-None g c =
    let told =
    err_from_is_err_and c.from_residual-in_err-print_none-in-None.result
    c.from_residual-in_err-print_none-in-None.ensures.1 in
    inr (inl (sent_none g.S.Store (g.N.Dial.traffic c.args.network.now) c.args.outbox.now c.next_open.new.self
    (g.O.Write.contents c.args.output.now) (g.O.Write.contents c.print_none.new.output)
    c.from_residual-in_err-print_none-in-None.result (rw c.in-None.is at c.in_ok-entry.ensures)
    (inr (told.0, told.1, rw told.2 c.in_err-print_none-in-None.ensures.refused))))

pub returns : goal.returns
returns g c =
    inr (inl (sent_none g.S.Store (g.N.Dial.traffic c.args.network.now) c.args.outbox.now c.next_open.new.self
    (g.O.Write.contents c.args.output.now) (g.O.Write.contents c.print_none.new.output) (Ok None)
    (rw c.in-None.is at c.in_ok-entry.ensures) (inl (refl, c.in_ok-print_none-in-None.ensures.printed))))
