use Rattle.std.proofs.Common.{◌≤◌, inl, inr, refl, length, arith, ap, sym, ◌∙◌}
use Rattle.std.proofs.Common.{None, get_or, ◌/◌}
use Rattle.connection_hall.specs.Running.{turns, Advances}
use Rattle.connection_hall.proofs.Hands.{bounded_on, hand_after, went_on, written_lent, slot_is, goes_to_rest}
use Rattle.connection_hall.proofs.Hands.{goes_with_loan, not_laden}
use Rattle.connection_hall.proofs.InTime.{free_in_time, ready_in_time}
use Rattle.connection_hall.proofs.hall.Hall.turn.Goals as goal

pub returns-in-Again-clause-running : goal.returns-in-Again-clause-running
returns-in-Again-clause-running g c answers hand running =
    let old = c.args.self.now in
    let it = c.args.served in
    let on = c.take_turn.new.self in
    let small : length c.deref_mut.result.now ≤ 16384 = omega (arith, c.deref_mut.ensures.len, old.room.full) in
    let bounded = bounded_on answers it on _ small c.take_turn.ensures.held c.take_turn.ensures.owed hand.bounded in
    let after = c.in-Again.ensures.served answers hand.served in
    c.enter.ensures.running answers (g.P.Sockets.traffic c.args.sockets.now)
    (hand_after g.S.Stream answers old _ c.args.place it on refl refl c.take_turn.ensures.same after bounded hand)
    (inl refl)
    (went_on g.S.Stream answers (turns old) _ old _ (g.P.Sockets.traffic c.args.sockets.now) it on refl refl refl
    refl refl
    c.saturating_add-self.ensures (λ i is. is) c.take_turn.ensures.same c.take_turn.ensures.owed running)

pub returns-in-Ready-clause-running : goal.returns-in-Ready-clause-running
returns-in-Ready-clause-running g c answers hand running =
    let old = c.args.self.now in
    let it = c.args.served in
    let on = c.take_turn.new.self in
    let small : length c.deref_mut.result.now ≤ 16384 = omega (arith, c.deref_mut.ensures.len, old.room.full) in
    let bounded = bounded_on answers it on _ small c.take_turn.ensures.held c.take_turn.ensures.owed hand.bounded in
    let after = c.in-Ready.ensures.served answers hand.served in
    c.enter-in-Ready.ensures.running answers (g.P.Sockets.traffic c.args.sockets.now)
    (hand_after g.S.Stream answers old _ c.args.place it on refl refl c.take_turn.ensures.same after.0 bounded hand)
    (inr (inr (inr after.1)))
    (went_on g.S.Stream answers (turns old) _ old _ (g.P.Sockets.traffic c.args.sockets.now) it on refl refl refl
    refl refl
    c.saturating_add-self.ensures (λ i is. is) c.take_turn.ensures.same c.take_turn.ensures.owed running)

pub returns-in-Waits-clause-running : goal.returns-in-Waits-clause-running
returns-in-Waits-clause-running g c answers hand running =
    let old = c.args.self.now in
    let it = c.args.served in
    let on = c.take_turn.new.self in
    let small : length c.deref_mut.result.now ≤ 16384 = omega (arith, c.deref_mut.ensures.len, old.room.full) in
    let bounded = bounded_on answers it on _ small c.take_turn.ensures.held c.take_turn.ensures.owed hand.bounded in
    let after = c.in-Waits.ensures.served answers hand.served in
    c.rest.ensures.running answers
    (hand_after g.S.Stream answers old _ c.args.place it on refl refl c.take_turn.ensures.same after.0 bounded hand)
    after.1
    (went_on g.S.Stream answers (turns old) _ old _ (g.P.Sockets.traffic c.args.sockets.now) it on refl refl refl
    refl refl
    c.saturating_add-self.ensures (λ i is. is) c.take_turn.ensures.same c.take_turn.ensures.owed running)

pub returns-in-Short-clause-running : goal.returns-in-Short-clause-running
returns-in-Short-clause-running g c answers hand running =
    let old = c.args.self.now in
    let it = c.args.served in
    let on = c.take_turn.new.self in
    let small : length c.deref_mut.result.now ≤ 16384 = omega (arith, c.deref_mut.ensures.len, old.room.full) in
    let bounded = bounded_on answers it on _ small c.take_turn.ensures.held c.take_turn.ensures.owed hand.bounded in
    let after = c.in-Short.ensures.served answers hand.served in
    c.lend.ensures.running answers (g.P.Sockets.traffic c.args.sockets.now)
    (hand_after g.S.Stream answers old _ c.args.place it on refl refl c.take_turn.ensures.same after.0 bounded hand)
    after.1
    (went_on g.S.Stream answers (turns old) _ old _ (g.P.Sockets.traffic c.args.sockets.now) it on refl refl refl
    refl refl
    c.saturating_add-self.ensures (λ i is. is) c.take_turn.ensures.same c.take_turn.ensures.owed running)

pub returns-in-Short-clause-owes : goal.returns-in-Short-clause-owes
returns-in-Short-clause-owes g c owes =
    written_lent g.S.Stream c.take_turn.new.self _ c.lend.ensures.here (c.take_turn.ensures.owes owes).1

pub returns-in-Over-clause-running : goal.returns-in-Over-clause-running
returns-in-Over-clause-running g c answers hand running =
    let old = c.args.self.now in
    let it = c.args.served in
    let on = c.take_turn.new.self in
    let after = c.in-Over.ensures.served answers hand.served in
    c.end.ensures.running answers (record {
      served = after.0;
      why_is = after.1;
      late = λ late. absurd (after.2 late);
      come = let h = hand.come in let number = c.take_turn.ensures.same.number in omega (arith, h, number);
    })
    (went_on g.S.Stream answers (turns old) _ old _ (g.P.Sockets.traffic c.args.sockets.now) it on refl refl refl
    refl refl
    c.saturating_add-self.ensures (λ i is. is) c.take_turn.ensures.same c.take_turn.ensures.owed running)

pub returns-in-Again-clause-goes_on : goal.returns-in-Again-clause-goes_on
returns-in-Again-clause-goes_on g c answers served light none =
    let old = c.args.self.now in
    let on = c.take_turn.new.self in
    slot_is (Advances g.S.Stream c.enter.new.self c.args.served) _ on c.enter.ensures.here
    (inl (c.in-Again.ensures.moves answers served none (not_laden (old.bounds.memory / 2) old.owed light) refl))

pub returns-in-Ready-clause-goes_on : goal.returns-in-Ready-clause-goes_on
returns-in-Ready-clause-goes_on g c answers served light none =
    let on = c.take_turn.new.self in
    let after = c.in-Ready.ensures.served answers served in
    slot_is (Advances g.S.Stream c.enter-in-Ready.new.self c.args.served) _ on c.enter-in-Ready.ensures.here
    (inr (inr (inr (inr after.1))))

pub returns-in-Waits-clause-goes_on : goal.returns-in-Waits-clause-goes_on
returns-in-Waits-clause-goes_on g c answers served light none =
    let after = c.in-Waits.ensures.served answers served in
    goes_to_rest g.S.Stream c.rest.new.self c.args.served c.take_turn.new.self _ _ c.rest.ensures.here after.1

pub returns-in-Short-clause-goes_on : goal.returns-in-Short-clause-goes_on
returns-in-Short-clause-goes_on g c answers served light none =
    let after = c.in-Short.ensures.served answers served in
    goes_with_loan g.S.Stream c.lend.new.self c.args.served c.take_turn.new.self _ (c.lend.ensures.lent after.1)
    (sym c.take_turn.ensures.same.loan ∙ after.1.not_lent)

pub returns-in-Over-clause-goes_on : goal.returns-in-Over-clause-goes_on
returns-in-Over-clause-goes_on g c answers served light none =
    rw (ap (λ v. get_or v.items c.args.place None) c.end.ensures.places ∙ c.requires.free) tt

pub returns-in-Again-clause-in_time : goal.returns-in-Again-clause-in_time
returns-in-Again-clause-in_time g c answers served = inl (c.enter.ensures.turn refl)

pub returns-in-Ready-clause-in_time : goal.returns-in-Ready-clause-in_time
returns-in-Ready-clause-in_time g c answers served =
    ready_in_time c.enter-in-Ready.new.self c.args.place _ c.take_turn.new.self c.enter-in-Ready.ensures.here
    (c.in-Ready.ensures.served answers served).1

pub returns-in-Waits-clause-in_time : goal.returns-in-Waits-clause-in_time
returns-in-Waits-clause-in_time g c answers served = c.rest.ensures.in_time

pub returns-in-Short-clause-in_time : goal.returns-in-Short-clause-in_time
returns-in-Short-clause-in_time g c answers served =
    rw c.now.ensures at (c.lend.ensures.in_time (c.in-Short.ensures.served answers served).1)

pub returns-in-Over-clause-in_time : goal.returns-in-Over-clause-in_time
returns-in-Over-clause-in_time g c answers served =
    free_in_time c.end.new.self c.args.place _
    (ap (λ v. get_or v.items c.args.place None) c.end.ensures.places ∙ c.requires.free)
