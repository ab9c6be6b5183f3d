use Rattle.std.proofs.lemmas.Result.{err_from_is_err_and}
use Rattle.outbox_process.proofs.Showings.{none, more, all, broken}
use Rattle.outbox_process.proofs.tasks.showing.show_those.Goals as goal

pub loop-id-init : goal.loop-id-init
loop-id-init g c = none g.S.Store c.args.states.now c.args.outbox.now (g.O.Write.contents c.args.output.now)

pub loop-id-preserved : goal.loop-id-preserved
loop-id-preserved g c =
    more g.S.Store c.args.states.now c.loop-id.id-index _ c.args.outbox.now c.loop-id.outbox c.show_entry.new.outbox
    (g.O.Write.contents c.args.output.now) (g.O.Write.contents c.loop-id.output)
    (g.O.Write.contents c.show_entry.new.output) c.in_ok-show_entry.field-0 c.loop-id-test.true c.loop-id.invariant
    c.in_ok-show_entry.ensures

pub returns-in_err-show_entry : goal.returns-in_err-show_entry
returns-in_err-show_entry g c =
    let told = err_from_is_err_and c.from_residual.result c.from_residual.ensures.1 in
    rw (told.1, told.2)
    (broken g.S.Store c.args.states.now c.loop-id.id-index _ c.args.outbox.now c.loop-id.outbox c.show_entry.new.outbox
    (g.O.Write.contents c.args.output.now) (g.O.Write.contents c.loop-id.output)
    (g.O.Write.contents c.show_entry.new.output) c.in_err-show_entry.field-0.0 c.loop-id-test.true c.loop-id.invariant
    c.in_err-show_entry.ensures)

pub returns : goal.returns
returns g c =
    all g.S.Store c.args.states.now c.loop-id.id-index c.args.outbox.now c.loop-id.outbox
    (g.O.Write.contents c.args.output.now) (g.O.Write.contents c.loop-id.output) tt c.loop-id-test.false
    c.loop-id.invariant
