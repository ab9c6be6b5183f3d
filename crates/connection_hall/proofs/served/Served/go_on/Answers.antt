use Rattle.std.proofs.Common.{◌≡◌, inl, inr, [], refl, ap, ◌∙◌, subst, arith}
use Rattle.connection_hall.specs.declared.served.Served.{Served}
use Rattle.connection_hall.specs.Connections.{MovesOn}
use Rattle.connection_hall.proofs.Told.{standing_on, standing_self, grows_self, grows_on, moves_on}
use Rattle.connection_hall.proofs.served.Served.go_on.Goals as goal

pub loop-count-init : goal.loop-count-init
loop-count-init g c = record {
  served = λ answers served. served;
  moves = λ answers served owes. inl (refl, refl);
  grows = grows_self c.args.self.now;
  same = standing_self g.S.Stream c.args.self.now;
  held = λ read room held. held;
  owed = λ most some owed. owed;
}

pub loop-count-preserved : goal.loop-count-preserved
loop-count-preserved g c = record {
  served = λ answers served. c.in-Again.ensures.served answers (c.loop-count.invariant.served answers served);
  moves = λ answers served owes. elim (c.loop-count.invariant.moves answers served owes) [
    | inl first ↦
        let none : c.loop-count.self.owed.items ≡ [] = ap (λ (s : Served g.row.S.Denot). s.owed.items) first.1 ∙ owes in
        inr (subst (λ (s : Served g.row.S.Denot). MovesOn s c.step.new.self) first.1
        (c.in-Again.ensures.moves answers (c.loop-count.invariant.served answers served) none refl))
    | inr moved ↦ inr (moves_on c.args.self.now c.loop-count.self c.step.new.self moved c.in-Again.ensures.grows)
  ];
  grows = grows_on c.args.self.now c.loop-count.self c.step.new.self c.loop-count.invariant.grows
      c.in-Again.ensures.grows;
  same = standing_on g.S.Stream _ _ _ c.loop-count.invariant.same c.in-Again.ensures.same;
  held = λ read room held. c.in-Again.ensures.held read (rw c.loop-count.auto.room room)
      (c.loop-count.invariant.held read room held);
  owed = λ most some owed. c.in-Again.ensures.owed most some (c.loop-count.invariant.owed most some owed);
}

pub returns-in_default : goal.returns-in_default
returns-in_default g c = record {
  served = λ answers served. c.step.ensures.served answers (c.loop-count.invariant.served answers served);
  moves = λ answers served owes again. elim (c.loop-count.invariant.moves answers served owes) [
    | inl first ↦
        let none : c.loop-count.self.owed.items ≡ [] = ap (λ (s : Served g.row.S.Denot). s.owed.items) first.1 ∙ owes in
        subst (λ (s : Served g.row.S.Denot). MovesOn s c.step.new.self) first.1
        (c.step.ensures.moves answers (c.loop-count.invariant.served answers served) none again)
    | inr moved ↦ moves_on c.args.self.now c.loop-count.self c.step.new.self moved c.step.ensures.grows
  ];
  grows = grows_on c.args.self.now c.loop-count.self c.step.new.self c.loop-count.invariant.grows c.step.ensures.grows;
  same = standing_on g.S.Stream _ _ _ c.loop-count.invariant.same c.step.ensures.same;
  held = λ read room held. c.step.ensures.held read (rw c.loop-count.auto.room room)
      (c.loop-count.invariant.held read room held);
  owed = λ most some owed. c.step.ensures.owed most some (c.loop-count.invariant.owed most some owed);
}

pub returns-clause-moves : goal.returns-clause-moves
returns-clause-moves g c answers served owes again = elim (c.loop-count.invariant.moves answers served owes) [
  | inl first ↦ absurd (omega (arith, first.0))
  | inr moved ↦ moved
]
