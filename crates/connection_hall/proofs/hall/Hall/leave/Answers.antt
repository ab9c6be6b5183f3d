use Rattle.std.proofs.Common.{◌≡◌, ◌<◌, ap, refl, None, get_or, set, length, arith}
use Rattle.std.proofs.lemmas.Grind.{common_steps}
use Rattle.connection_hall.specs.Running.{turns}
use Rattle.connection_hall.proofs.Halls.{frames_same, left_place}
use Rattle.connection_hall.proofs.hall.Hall.leave.Goals as goal

pub returns-clause-running : goal.returns-clause-running
returns-clause-running g c answers traffic called kept running =
    let old = c.args.self.now in
    let low : c.args.place < length old.places.items = grind (arith, common_steps, c.requires) in
    let is : get_or old.places.items c.args.place None ≡ c.take.result = grind (arith, common_steps) in
    left_place g.S.Stream answers called (turns old) old _ traffic c.args.place c.take.result is low
    (ap (λ slot. set old.places.items c.args.place slot) c.take.ensures.after) (frames_same old _ refl refl refl refl)
    refl refl refl kept running
