use Rattle.std.proofs.Common.{arith}
use Rattle.std.proofs.lemmas.Result.{err_from_is_err_and}
use Rattle.std.proofs.Common.{refl}
use Rattle.outbox_process.proofs.Turns.{none, step, stop, end}
use Rattle.outbox_process.proofs.tasks.rounds.send_each.Goals as goal

pub loop-id-init : goal.loop-id-init
loop-id-init g c =
    let first =
    none g.S.Store c.args.ids.now (g.N.Dial.traffic c.args.network.now) c.args.outbox.now
    (g.O.Write.contents c.args.output.now) in
    (first.0, first.1, refl, omega arith)

pub loop-id-preserved : goal.loop-id-preserved
loop-id-preserved g c =
    step g.S.Store c.args.ids.now c.loop-id.id-index 0 (g.N.Dial.traffic c.args.network.now)
    (g.N.Dial.traffic c.loop-id.network) (g.N.Dial.traffic c.send_in_round.new.network) c.args.outbox.now
    c.loop-id.outbox
    c.send_in_round.new.outbox (g.O.Write.contents c.args.output.now) (g.O.Write.contents c.loop-id.output)
    (g.O.Write.contents c.send_in_round.new.output) c.loop-id.round c.with-round.result c.in_ok-ending.ending
    c.loop-id-test.true c.loop-id.invariant c.in_ok-ending.ensures c.with-round.ensures

pub returns-in_err-ending : goal.returns-in_err-ending
returns-in_err-ending g c =
    let told = err_from_is_err_and c.from_residual.result c.from_residual.ensures.1 in
    rw (told.1, told.2)
    (stop g.S.Store c.args.ids.now c.loop-id.id-index 0 (g.N.Dial.traffic c.args.network.now)
    (g.N.Dial.traffic c.loop-id.network) (g.N.Dial.traffic c.send_in_round.new.network) c.args.outbox.now
    c.loop-id.outbox
    c.send_in_round.new.outbox (g.O.Write.contents c.args.output.now) (g.O.Write.contents c.loop-id.output)
    (g.O.Write.contents c.send_in_round.new.output) c.in_err-ending.field-0.0
    c.loop-id-test.true c.loop-id.invariant.0 c.in_err-ending.ensures)

pub returns : goal.returns
returns g c =
    end g.S.Store c.args.ids.now c.loop-id.id-index (g.N.Dial.traffic c.args.network.now)
    (g.N.Dial.traffic c.loop-id.network) c.args.outbox.now c.loop-id.outbox (g.O.Write.contents c.args.output.now)
    (g.O.Write.contents c.loop-id.output) c.loop-id.round c.loop-id-test.false
    (c.loop-id.invariant.0, c.loop-id.invariant.1)
