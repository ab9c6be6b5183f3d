use Rattle.std.proofs.Common.{◌≡◌, min, take}
use Rattle.connection_hall.specs.Places.{owed_places}
use Rattle.connection_hall.proofs.hall.count_owed.Given as goal

abbrev pub invariant-loop-place : goal.invariant-loop-place
invariant-loop-place g l = l.count ≡ min (owed_places (take l.place l.places)) 18446744073709551615
