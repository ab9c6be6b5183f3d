use Rattle.std.proofs.Common.{◌≡◌, ◌<◌, ◌∙◌, ap, Some, None, get_or, length, subst, arith, Option}
use Rattle.std.proofs.lemmas.Grind.{common_steps}
use Rattle.connection_hall.specs.declared.served.Served.{Served}
use Rattle.connection_hall.specs.Deadlines.{Awaits}
use Rattle.connection_hall.specs.Lending.{most_lent, is_short}
use Rattle.connection_hall.specs.Places.{since_of}
use Rattle.connection_hall.specs.Running.{turns}
use Rattle.connection_hall.proofs.Halls.{renoted, within}
use Rattle.connection_hall.proofs.InTime.{was_late, late_within}
use Rattle.connection_hall.proofs.hall.Hall.call_late.Goals as goal

pub returns-clause-running : goal.returns-clause-running
returns-clause-running g c answers traffic running =
    let old = c.args.self.now in
    let new = c.loop-place.self in
    let inv = c.loop-place.invariant in
    let places = ap (λ v. v.items) inv.places in
    renoted g.S.Stream answers (turns old) _ old new traffic places (record {
      bounds = inv.rest.bounds;
      left = let h = inv.rest.left in omega (arith, h);
      most = ap most_lent inv.rest.loans;
      limit = inv.limit;
    }) inv.rest.left inv.rest.loans inv.rest.owed
    (λ i it is.
    let there : get_or new.places.items i None ≡ Some it = ap (λ l. get_or l i None) places ∙ is in
    let there_is : i < length new.places.items = within new.places.items i it there in
    let low : i < c.loop-place.place = grind (arith, common_steps, there_is, inv.all, c.loop-place-test.false) in
    subst (λ (slot : Option (Served g.row.S.Denot)). Awaits new.deadlines (since_of slot)) there (inv.noted i low))
    inv.round.turns running

pub returns-clause-late : goal.returns-clause-late
returns-clause-late g c answers traffic running i late =
    let old = c.args.self.now in
    let new = c.loop-place.self in
    let inv = c.loop-place.invariant in
    let was = was_late old new _ _ c.args.now inv.limit (ap is_short inv.rest.loans)
    (ap (λ v. get_or v.items i None) inv.places) late in
    let there_is = late_within new i c.args.now late in
    let low : i < c.loop-place.place = grind (arith, common_steps, there_is, inv.all, c.loop-place-test.false) in
    inv.late i low was
