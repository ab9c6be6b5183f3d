use Rattle.std.proofs.Common.{◌≡◌, true}
use Rattle.connection_hall.proofs.Told.{needs_more}
use Rattle.connection_hall.proofs.served.Served.need_data.Goals as goal
use Rattle.connection_hall.proofs.served.Served.need_data.Goals.{else-awaits-via-then-awaits+else-not-self}
use Rattle.connection_hall.proofs.served.Served.need_data.Goals.{else-awaits-via-else-awaits}

pub returns-clause-served : goal.returns-clause-served
returns-clause-served g c answers served event =
    let now = c.args.self.now in
    let early : c.args.awaits ≡ true → now.is_early ≡ true = elim c.else-awaits.branch [
      | else-awaits-via-then-awaits+else-not-self w ↦ λ asks. w.if-not-self.false
      | else-awaits-via-else-awaits w ↦ λ asks. absurd (let a = w.if-awaits.false in cc)
    ] in
    c.read.ensures.served answers served
    (needs_more now c.args.awaits event c.requires.none_owed c.requires.none_ready c.requires.open early)

pub returns-clause-moves : goal.returns-clause-moves
returns-clause-moves g c event again =
    let now = c.args.self.now in
    let early : c.args.awaits ≡ true → now.is_early ≡ true = elim c.else-awaits.branch [
      | else-awaits-via-then-awaits+else-not-self w ↦ λ asks. w.if-not-self.false
      | else-awaits-via-else-awaits w ↦ λ asks. absurd (let a = w.if-awaits.false in cc)
    ] in
    c.read.ensures.moves
    (needs_more now c.args.awaits event c.requires.none_owed c.requires.none_ready c.requires.open early) again
