use Rattle.std.proofs.Common.{true, Err, subst, sym}
use Rattle.database_places.specs.Opening.{OpensPlace}
use Rattle.database_places.proofs.Visits.{is_missing, is_empty, is_there}
use Rattle.database_places.proofs.opening.find.Goals as goal

pub returns-then-is_missing-clause-opens : goal.returns-then-is_missing-clause-opens
returns-then-is_missing-clause-opens g c =
    let lying = g.P.Place.lying c.args.place.now in
    subst (λ it. OpensPlace g.D.Disk true lying lying (Err it)) (sym c.from.ensures)
    (is_missing g.D.Disk lying c.is_missing.result c.is_missing.ensures c.if-is_missing.true)

pub returns-then-is_empty-clause-opens : goal.returns-then-is_empty-clause-opens
returns-then-is_empty-clause-opens g c =
    let lying = g.P.Place.lying c.args.place.now in
    subst (λ it. OpensPlace g.D.Disk true lying lying (Err it)) (sym c.from-then-is_empty.ensures)
    (is_empty g.D.Disk lying c.is_missing.result c.is_empty.result c.is_missing.ensures c.if-is_missing.false
    c.is_empty.ensures c.if-is_empty.true)

pub returns-clause-opens : goal.returns-clause-opens
returns-clause-opens g c =
    is_there g.D.Disk (g.P.Place.lying c.args.place.now) (g.P.Place.lying c.make.new.place) c.is_missing.result
    c.make.result c.is_missing.ensures c.if-is_missing.false c.make.ensures.opens
