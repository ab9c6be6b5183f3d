use Rattle.std.proofs.Common.{◌≡◌, take}
use Rattle.outbox_process.specs.Endings.{counts}
use Rattle.outbox_process.specs.Rounds.{AreToSend, HaveTurns, endings}
use Rattle.outbox_process.proofs.Turns.{IsFew}
use Rattle.outbox_process.proofs.tasks.rounds.send_each.Given as goal

abbrev pub invariant-loop-id : goal.invariant-loop-id
invariant-loop-id g l =
    (made : HaveTurns g.S.Store (AreToSend l.ids) (take l.id-index l.ids) (g.N.Dial.traffic l.fn.network)
    (g.N.Dial.traffic l.network) l.fn.outbox l.outbox (g.O.Write.contents l.fn.output)
    (g.O.Write.contents l.output))
    × (l.round ≡ counts (endings made.turns)) × (l.round.sent ≡ l.id-index) × IsFew l.round
