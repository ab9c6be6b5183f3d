use Rattle.std.proofs.Common.{◌∙◌, ap, sym, refl, List, ℕ, None, get_or, slice_index, subst, arith}
use Rattle.connection_hall.specs.declared.round.Round.{Round}
use Rattle.connection_hall.specs.Rounds.{has_turn, wait}
use Rattle.connection_hall.specs.Running.{turns, AreCalled}
use Rattle.connection_hall.proofs.Halls.{delays_turns, delays_after, called_still, counted_more}
use Rattle.connection_hall.proofs.hall.Hall.ask.Goals as goal

pub returns-clause-running : goal.returns-clause-running
returns-clause-running g c answers running =
    let last = c.admit.new.self in
    let traffic = g.P.Sockets.traffic c.args.sockets.now in
    counted_more g.S.Stream answers (turns last) _ last _ (g.P.Sockets.traffic c.admit.new.sockets) refl refl refl refl
    refl (λ h. h) (λ i is. ap (λ (r : Round). has_turn r i) c.begin.ensures.rest ∙ is)
    (c.admit.ensures.running answers (rw c.in_ok-ask.ensures
    (c.call_late.ensures.running answers traffic (c.call_named.ensures.running answers traffic
    (c.trim.ensures.running answers traffic running)))))

pub returns-clause-named : goal.returns-clause-named
returns-clause-named g c = λ k at there.
    let named = c.call_named.ensures.named in
    let late = called_still c.call_named.new.self c.call_late.new.self _
    (λ i. ap (λ v. get_or v.items i None) c.call_late.ensures.places) c.call_late.ensures.round.turns named in
    let all = subst (λ (l : List ℕ). AreCalled l c.admit.new.self) (c.named.ensures ∙ sym c.admit.ensures.named)
    (c.admit.ensures.called _ late) in
    let i = slice_index (g.P.Sockets.named c.admit.new.sockets) k in
    ap (λ (r : Round). has_turn r i) c.begin.ensures.rest ∙ all k at there

pub returns-clause-delays : goal.returns-clause-delays
returns-clause-delays g c =
    let named = delays_turns c.trim.new.self c.call_named.new.self c.call_named.ensures.places
    c.call_named.ensures.round in
    let late = delays_turns c.call_named.new.self c.call_late.new.self c.call_late.ensures.places
    c.call_late.ensures.round in
    let all = delays_after _ _ _ (delays_after _ _ _ (delays_after _ _ _ c.trim.ensures.delays named) late)
    c.admit.ensures.delays in
    record {
      taken = all.taken;
      turns = λ i some is. ap (λ (r : Round). has_turn r i) c.begin.ensures.rest ∙ all.turns i some is;
      waits = λ i some.
          let same = ap (λ (r : Round). wait r i) c.begin.ensures.rest in
          let h = all.waits i some in omega (arith, same, h);
    }

pub returns-clause-late : goal.returns-clause-late
returns-clause-late g c answers running = λ i late.
    let traffic = g.P.Sockets.traffic c.args.sockets.now in
    let now = g.P.Sockets.clock c.admit.new.sockets in
    let called = c.call_late.ensures.late answers traffic (c.call_named.ensures.running answers traffic
    (c.trim.ensures.running answers traffic running)) in
    ap (λ (r : Round). has_turn r i) c.begin.ensures.rest
    ∙ c.admit.ensures.late now (rw (c.now-2.ensures ∙ sym c.admit.ensures.clock) at called) i late
