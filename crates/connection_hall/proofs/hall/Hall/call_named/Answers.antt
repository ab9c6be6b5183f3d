use Rattle.std.proofs.Common.{◌∙◌, ◌≤◌, below_more, refl, None, get_or, length, arith}
use Rattle.std.proofs.lemmas.List.{get_or_past}
use Rattle.std.proofs.lemmas.Grind.{common_steps}
use Rattle.connection_hall.specs.Running.{turns}
use Rattle.connection_hall.proofs.Halls.{called_more, frames_same, turns_after}
use Rattle.connection_hall.proofs.hall.Hall.call_named.Goals as goal
use Rattle.connection_hall.proofs.hall.Hall.call_named.Goals.{then-place-len, else-place-len}

pub loop-place-preserved : goal.loop-place-preserved
loop-place-preserved g c =
    let mid = c.loop-place.self in
    let inv = c.loop-place.invariant in
    elim c.if-place-len.branch [
      | then-place-len w ↦ rw w.self-is (record {
        running = λ answers traffic running.
            called_more g.S.Stream answers (turns mid) _ mid _ traffic refl (frames_same mid _ refl refl refl refl) refl
            refl (λ h. h) w.call.ensures.kept.turns (inv.running answers traffic running);
        named = below_more _ _ (λ k low there. w.call.ensures.kept.turns _ (inv.named k low there))
            (λ there. w.call.ensures.called);
        places = inv.places;
        round = turns_after _ _ _ inv.round w.call.ensures.kept;
        rest = record {
          bounds = inv.rest.bounds;
          left = inv.rest.left;
          loans = inv.rest.loans;
          owed = inv.rest.owed;
          len = inv.rest.len;
          count = w.call.ensures.kept.count ∙ inv.rest.count;
        };
      })
      | else-place-len w ↦
          let past : length mid.places.items ≤ get_or c.args.named.now c.loop-place.place-index 0 =
          grind (arith, common_steps, w.if-place-len.false, c.len.ensures) in
          rw w.self-is (record {
            running = inv.running;
            named = below_more _ _ inv.named
                (λ there. absurd (let h = rw (get_or_past mid.places.items _ None past) at there in cc));
            places = inv.places;
            round = inv.round;
            rest = inv.rest;
          })
    ]
