use Rattle.std.proofs.Common.{◌≡◌, ◌<◌, ◌⊎◌, inl, inr, ◌∙◌, sym, refl, true, length}
use Rattle.std.proofs.Common.{arith}
use Rattle.std.proofs.lemmas.Grind.{common_steps}
use Rattle.connection_hall.specs.Running.{turns, IsResting}
use Rattle.connection_hall.proofs.Halls.{entered}
use Rattle.connection_hall.proofs.hall.Hall.enter.Goals as goal

pub returns-then-goes_on-clause-running : goal.returns-then-goes_on-clause-running
returns-then-goes_on-clause-running g c answers traffic hand rests running =
    let old = c.args.self.now in
    let low : c.args.place < length old.places.items = grind (arith, common_steps, c.requires.place) in
    entered g.S.Stream answers (turns old) _ old _ traffic c.args.place c.args.served low refl c.requires.free
    (record {
      bounds = refl;
      left = omega arith;
      most = refl;
      limit = c.note.ensures.patience;
      noted = c.note.ensures.others;
    }) refl refl refl c.call.ensures.kept.turns hand c.note.ensures.noted (inl c.call.ensures.called) running

pub returns-else-goes_on-clause-running : goal.returns-else-goes_on-clause-running
returns-else-goes_on-clause-running g c answers traffic hand rests running =
    let old = c.args.self.now in
    let low : c.args.place < length old.places.items = grind (arith, common_steps, c.requires.place) in
    let still : (turns old c.args.place ≡ true) ⊎ IsResting g.S.Stream old c.args.served =
    elim rests [ inl is ↦ absurd (let h = sym is ∙ c.if-goes_on.false in cc) | inr is ↦ inr is ] in
    entered g.S.Stream answers (turns old) (turns old) old _ traffic c.args.place c.args.served low refl c.requires.free
    (record {
      bounds = refl;
      left = omega arith;
      most = refl;
      limit = c.note.ensures.patience;
      noted = c.note.ensures.others;
    }) refl refl refl (λ i is. is) hand c.note.ensures.noted still running
