use Rattle.std.proofs.Common.{◌≡◌, ◌+◌, ◌-◌, ◌∙◌, inl}
use Rattle.std.proofs.Common.{refl}
use Rattle.std.proofs.Common.{length, arith, ap, vec_len}
use Rattle.connection_hall.specs.Lending.{is_short}
use Rattle.connection_hall.specs.Running.{turns}
use Rattle.connection_hall.proofs.Halls.{called_too, delays_after, delays_came}
use Rattle.connection_hall.proofs.Answered.{came, none_own}
use Rattle.connection_hall.proofs.InTime.{late_too}
use Rattle.connection_hall.proofs.hall.Hall.admit.Goals as goal
use Rattle.connection_hall.proofs.hall.Hall.admit.Goals.{then-is_none+in_ok-stream+in-Some, else-is_none}

pub returns-in_default-clause-called : goal.returns-in_default-clause-called
returns-in_default-clause-called g c named called =
    c.grow.ensures.called named (c.loop-place.invariant.called named called)

pub loop-place-preserved : goal.loop-place-preserved
loop-place-preserved g c =
    let mid = c.grow.new.self in
    let inv = c.loop-place.invariant in
    let before = g.P.Sockets.traffic c.loop-place.sockets in
    elim c.if-is_none.branch [
      | then-is_none+in_ok-stream+in-Some w ↦
          let comes = rw w.in-Some.is at w.in_ok-stream.ensures.came in
          let is = w.new.result in
          let to_come = mid.to_come in
          let some = c.if-self-eq0.false in
          let same_left = c.grow.ensures.left in
          let number : is.number + mid.left ≡ mid.bounds.connections =
          let n = w.new.ensures.number in omega (arith, n, to_come) in
          let one_less : mid.left - 1 + 1 ≡ mid.left = omega (arith, some, same_left) in
          let none_owed : vec_len is.owed ≡ 0 = is.owed.ok.0 ∙ ap length w.new.ensures.owed in
          rw (w.self-is, w.sockets-is) (record {
            running = λ answers running.
                let were = c.grow.ensures.running answers before (inv.running answers running) in
                w.enter.ensures.running answers (g.P.Sockets.traffic w.accept.new.self) (record {
                  served = w.new.ensures.served answers (none_own g.S.Stream mid _ answers (omega (arith, to_come))
                      were.numbers);
                  watched = ap g.S.Stream.place w.new.ensures.stream ∙ comes.1;
                  bounded = record {
                    held = rw w.new.ensures.loan (let h = ap length w.new.ensures.held in omega (arith, h));
                    owed = omega (arith, none_owed);
                  };
                  come = omega (arith, number, one_less);
                }) (inl refl)
                (came g.S.Stream answers (turns mid) _ mid _ before (g.P.Sockets.traffic w.accept.new.self) is refl refl
                one_less refl refl refl number w.new.ensures.loan none_owed comes.2 (λ i is. is) were);
            next = let there = c.grow.ensures.there in let len = w.enter.ensures.len in omega (arith, there, len);
            named = w.in_ok-stream.ensures.named ∙ inv.named;
            clock = w.in_ok-stream.ensures.clock ∙ inv.clock;
            called = λ named called.
                called_too mid w.enter.new.self named c.loop-place.place w.enter.ensures.others (w.enter.ensures.turn
                refl)
                w.enter.ensures.round.turns (c.grow.ensures.called named (inv.called named called));
            late = λ now called.
                late_too mid w.enter.new.self now c.loop-place.place w.enter.ensures.others (w.enter.ensures.turn refl)
                w.enter.ensures.patience (ap is_short w.enter.ensures.loans) w.enter.ensures.round.turns
                (c.grow.ensures.late now (inv.late now called));
            delays = delays_after _ _ _ (delays_after _ _ _ inv.delays c.grow.ensures.delays)
                (delays_came mid w.enter.new.self c.loop-place.place is w.enter.ensures.here w.enter.ensures.others
                w.enter.ensures.round);
            bounds = w.enter.ensures.bounds ∙ c.grow.ensures.bounds ∙ inv.bounds;
          })
      | else-is_none w ↦ rw (w.self-is, w.sockets-is) (record {
        running = λ answers running. c.grow.ensures.running answers before (inv.running answers running);
        next = let there = c.grow.ensures.there in omega (arith, there);
        named = inv.named;
        clock = inv.clock;
        late = λ now called. c.grow.ensures.late now (inv.late now called);
        called = λ named called. c.grow.ensures.called named (inv.called named called);
        delays = delays_after _ _ _ inv.delays c.grow.ensures.delays;
        bounds = c.grow.ensures.bounds ∙ inv.bounds;
      })
    ]

pub returns-in_default-clause-delays : goal.returns-in_default-clause-delays
returns-in_default-clause-delays g c = delays_after _ _ _ c.loop-place.invariant.delays c.grow.ensures.delays

pub returns-in_default-clause-late : goal.returns-in_default-clause-late
returns-in_default-clause-late g c now called = c.grow.ensures.late now (c.loop-place.invariant.late now called)
