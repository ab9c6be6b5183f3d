use Rattle.outbox_process.proofs.Showings.{ShowsFirst}
use Rattle.outbox_process.proofs.tasks.showing.show_those.Given as goal

abbrev pub invariant-loop-id : goal.invariant-loop-id
invariant-loop-id g l =
    ShowsFirst g.S.Store l.states l.id-index l.fn.outbox l.outbox (g.O.Write.contents l.fn.output)
    (g.O.Write.contents l.output)
