use Rattle.std.specs.Prelude.{◌≡◌}
use Rattle.database_places.proofs.Trying.{Stays}
use Rattle.database_places.proofs.waiting.WaitingPlacePlace.take.Given as goal

abbrev pub invariant-loop : goal.invariant-loop
invariant-loop g l =
    Stays (g.P.Place.lying l.fn.self.place) (g.P.Place.lying l.self.place)
    × (g.P.Place.file l.self.place ≡ g.P.Place.file l.fn.self.place)
