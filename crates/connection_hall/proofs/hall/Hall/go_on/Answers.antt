use Rattle.std.proofs.Common.{◌∙◌, ap, sym, inl, None, Option, subst}
use Rattle.std.proofs.Common.{get_or, arith, ◌/◌}
use Rattle.connection_hall.specs.declared.bounds.Bounds.{Bounds}
use Rattle.connection_hall.specs.declared.hall.Hall.{Hall}
use Rattle.connection_hall.specs.declared.served.Served.{Served}
use Rattle.connection_hall.specs.Rounds.{has_turn}
use Rattle.connection_hall.specs.Running.{turns, AreRunning}
use Rattle.connection_hall.proofs.Halls.{gives_one, counted_more, called_again, turns_after, turns_same}
use Rattle.connection_hall.proofs.InTime.{free_in_time}
use Rattle.connection_hall.proofs.hall.Hall.go_on.Goals as goal

pub returns-then-must_wait-clause-running : goal.returns-then-must_wait-clause-running
returns-then-must_wait-clause-running g c answers running =
    let old = c.args.self.now in
    let same = c.must_wait.ensures.kept in
    let round = ap (λ (hall : Hall g.row.S.Denot). hall.round) same in
    counted_more g.S.Stream answers (turns old) _ old _ (g.P.Sockets.traffic c.args.sockets.now)
    (ap (λ (hall : Hall g.row.S.Denot). hall.places) same) (ap (λ (hall : Hall g.row.S.Denot). hall.bounds) same)
    (ap (λ (hall : Hall g.row.S.Denot). hall.left) same) (ap (λ (hall : Hall g.row.S.Denot). hall.loans) same)
    (ap (λ (hall : Hall g.row.S.Denot). hall.deadlines) same) c.must_wait.ensures.counted
    (called_again old.round c.give.new.self c.call.new.self c.in_ok-place.place c.in_ok-place.ensures.given
    c.call.ensures.called (turns_after _ _ _ (turns_same _ _ round) c.call.ensures.kept)) running

pub returns-in-Some-clause-running : goal.returns-in-Some-clause-running
returns-in-Some-clause-running g c answers running =
    let old = c.args.self.now in
    let mid = c.must_wait.new.self in
    let traffic = g.P.Sockets.traffic c.args.sockets.now in
    let same = c.must_wait.ensures.kept in
    let round = ap (λ (hall : Hall g.row.S.Denot). hall.round) same in
    let counted : AreRunning g.S.Stream answers None (turns old) mid traffic =
    counted_more g.S.Stream answers (turns old) (turns old) old mid traffic
    (ap (λ (hall : Hall g.row.S.Denot). hall.places) same) (ap (λ (hall : Hall g.row.S.Denot). hall.bounds) same)
    (ap (λ (hall : Hall g.row.S.Denot). hall.left) same) (ap (λ (hall : Hall g.row.S.Denot). hall.loans) same)
    (ap (λ (hall : Hall g.row.S.Denot). hall.deadlines) same) c.must_wait.ensures.counted (λ i is. is) running in
    c.turn.ensures.running answers (c.in-Some.ensures.hand answers traffic (turns old) counted)
    (c.in-Some.ensures.running answers traffic (turns old)
    (λ i other is. ap (λ r. has_turn r i) round ∙ c.in_ok-place.ensures.given.others i other ∙ is) counted)

pub returns-in-Some-clause-given : goal.returns-in-Some-clause-given
returns-in-Some-clause-given g c =
    let same = c.must_wait.ensures.kept in
    let round = ap (λ (hall : Hall g.row.S.Denot). hall.round) same in
    gives_one c.args.self.now c.turn.new.self c.give.new.self c.in_ok-place.place c.in_ok-place.ensures.given
    (turns_after _ _ _ (turns_same _ _ (c.leave.ensures.round ∙ round)) c.turn.ensures.round)

pub returns-in_default-clause-running : goal.returns-in_default-clause-running
returns-in_default-clause-running g c answers running =
    let old = c.args.self.now in
    let mid = c.must_wait.new.self in
    let traffic = g.P.Sockets.traffic c.args.sockets.now in
    let same = c.must_wait.ensures.kept in
    let round = ap (λ (hall : Hall g.row.S.Denot). hall.round) same in
    let counted : AreRunning g.S.Stream answers None (turns old) mid traffic =
    counted_more g.S.Stream answers (turns old) (turns old) old mid traffic
    (ap (λ (hall : Hall g.row.S.Denot). hall.places) same) (ap (λ (hall : Hall g.row.S.Denot). hall.bounds) same)
    (ap (λ (hall : Hall g.row.S.Denot). hall.left) same) (ap (λ (hall : Hall g.row.S.Denot). hall.loans) same)
    (ap (λ (hall : Hall g.row.S.Denot). hall.deadlines) same) c.must_wait.ensures.counted (λ i is. is) running in
    subst (λ (hand : Option (Served g.row.S.Denot)).
    AreRunning g.S.Stream answers hand (turns c.leave.new.self) c.leave.new.self traffic) c.in_default.is
    (c.leave.ensures.running answers traffic (turns old)
    (λ i other is. ap (λ r. has_turn r i) round ∙ c.in_ok-place.ensures.given.others i other ∙ is) counted)

pub returns-in_default-clause-given : goal.returns-in_default-clause-given
returns-in_default-clause-given g c =
    let same = c.must_wait.ensures.kept in
    let round = ap (λ (hall : Hall g.row.S.Denot). hall.round) same in
    gives_one c.args.self.now c.leave.new.self c.give.new.self c.in_ok-place.place c.in_ok-place.ensures.given
    (turns_same _ _ (c.leave.ensures.round ∙ round))

pub returns-then-must_wait-clause-given : goal.returns-then-must_wait-clause-given
returns-then-must_wait-clause-given g c =
    let round = ap (λ (hall : Hall g.row.S.Denot). hall.round) c.must_wait.ensures.kept in
    gives_one c.args.self.now _ c.give.new.self c.in_ok-place.place c.in_ok-place.ensures.given
    (turns_after _ _ _ (turns_same _ _ round) c.call.ensures.kept)

pub returns-then-must_wait-clause-writes : goal.returns-then-must_wait-clause-writes
returns-then-must_wait-clause-writes g c owes =
    let none = c.must_wait.ensures.owes_nothing c.if-must_wait.true in absurd (omega (arith, owes, none))

pub returns-then-must_wait-clause-goes_on : goal.returns-then-must_wait-clause-goes_on
returns-then-must_wait-clause-goes_on g c answers running light =
    let laden = c.must_wait.ensures.laden c.if-must_wait.true in absurd (omega (arith, light, laden))

pub returns-in-Some-clause-writes : goal.returns-in-Some-clause-writes
returns-in-Some-clause-writes g c owes =
    let places = ap (λ (hall : Hall g.row.S.Denot). get_or hall.places.items c.in_ok-place.place None)
    c.must_wait.ensures.kept in
    c.turn.ensures.owes (rw (sym places ∙ sym c.in-Some.ensures.was) at owes)

pub returns-in-Some-clause-goes_on : goal.returns-in-Some-clause-goes_on
returns-in-Some-clause-goes_on g c answers running light =
    let old = c.args.self.now in
    let mid = c.must_wait.new.self in
    let traffic = g.P.Sockets.traffic c.args.sockets.now in
    let same = c.must_wait.ensures.kept in
    let places = ap (λ (hall : Hall g.row.S.Denot). get_or hall.places.items c.in_ok-place.place None) same in
    let memory = ap (λ (hall : Hall g.row.S.Denot). hall.bounds.memory / 2) same in
    let counted : AreRunning g.S.Stream answers None (turns old) mid traffic =
    counted_more g.S.Stream answers (turns old) (turns old) old mid traffic
    (ap (λ (hall : Hall g.row.S.Denot). hall.places) same) (ap (λ (hall : Hall g.row.S.Denot). hall.bounds) same)
    (ap (λ (hall : Hall g.row.S.Denot). hall.left) same) (ap (λ (hall : Hall g.row.S.Denot). hall.loans) same)
    (ap (λ (hall : Hall g.row.S.Denot). hall.deadlines) same) c.must_wait.ensures.counted (λ i is. is) running in
    let hand = c.in-Some.ensures.hand answers traffic (turns old) counted in
    let few = c.must_wait.ensures.light light in
    let owed_same = c.leave.ensures.kept.owed in
    let bounds = ap (λ (b : Bounds). b.memory / 2) c.leave.ensures.kept.bounds in
    rw (sym places ∙ sym c.in-Some.ensures.was)
    (c.turn.ensures.goes_on answers hand.served (omega (arith, few, owed_same, bounds, memory)))

pub returns-in_default-clause-writes : goal.returns-in_default-clause-writes
returns-in_default-clause-writes g c owes =
    let places = ap (λ (hall : Hall g.row.S.Denot). get_or hall.places.items c.in_ok-place.place None)
    c.must_wait.ensures.kept in
    absurd (let h = rw (sym places ∙ sym c.leave.ensures.was ∙ c.in_default.is) at owes in omega (arith, h))

pub returns-in_default-clause-goes_on : goal.returns-in_default-clause-goes_on
returns-in_default-clause-goes_on g c answers running light =
    let places = ap (λ (hall : Hall g.row.S.Denot). get_or hall.places.items c.in_ok-place.place None)
    c.must_wait.ensures.kept in
    rw (sym places ∙ sym c.leave.ensures.was ∙ c.in_default.is) tt

pub returns-then-must_wait-clause-in_time : goal.returns-then-must_wait-clause-in_time
returns-then-must_wait-clause-in_time g c answers running = inl c.call.ensures.called

pub returns-in-Some-clause-in_time : goal.returns-in-Some-clause-in_time
returns-in-Some-clause-in_time g c answers running =
    let old = c.args.self.now in
    let mid = c.must_wait.new.self in
    let traffic = g.P.Sockets.traffic c.args.sockets.now in
    let same = c.must_wait.ensures.kept in
    let counted : AreRunning g.S.Stream answers None (turns old) mid traffic =
    counted_more g.S.Stream answers (turns old) (turns old) old mid traffic
    (ap (λ (hall : Hall g.row.S.Denot). hall.places) same) (ap (λ (hall : Hall g.row.S.Denot). hall.bounds) same)
    (ap (λ (hall : Hall g.row.S.Denot). hall.left) same) (ap (λ (hall : Hall g.row.S.Denot). hall.loans) same)
    (ap (λ (hall : Hall g.row.S.Denot). hall.deadlines) same) c.must_wait.ensures.counted (λ i is. is) running in
    c.turn.ensures.in_time answers (c.in-Some.ensures.hand answers traffic (turns old) counted).served

pub returns-in_default-clause-in_time : goal.returns-in_default-clause-in_time
returns-in_default-clause-in_time g c answers running =
    free_in_time c.leave.new.self c.in_ok-place.place _ c.leave.ensures.free
