use Rattle.std.proofs.Common.{◌≡◌, ◌∙◌, sym, false, true, rules}
use Rattle.outbox_process.proofs.Turns.{turn_sent, turn_failed}
use Rattle.outbox_process.proofs.tasks.rounds.send_in_round.Goals as goal

pub returns-in-Ok : goal.returns-in-Ok
returns-in-Ok g c =
    rw c.of.ensures
    (turn_sent g.S.Store c.args.id (g.N.Dial.traffic c.args.network.now) (g.N.Dial.traffic c.send_open.new.network)
    c.args.outbox.now c.send_open.new.outbox (g.O.Write.contents c.args.output.now)
    (g.O.Write.contents c.send_open.new.output) c.in-Ok.state (rw c.in-Ok.is at c.send_open.ensures))

pub returns-then-not-gives_up : goal.returns-then-not-gives_up
returns-then-not-gives_up g c =
    let own : c.is_of_entry.result ≡ true = search rules in
    let goes_on : c.gives_up.result ≡ false = search rules in
    turn_failed g.S.Store c.args.id (g.N.Dial.traffic c.args.network.now) (g.N.Dial.traffic c.send_open.new.network)
    c.args.outbox.now c.send_open.new.outbox (g.O.Write.contents c.args.output.now)
    (g.O.Write.contents c.send_open.new.output) c.in-Err.why (rw c.in-Err.is at c.send_open.ensures)
    (sym c.is_of_entry.ensures ∙ own) (sym c.gives_up.ensures ∙ goes_on)
