use Rattle.std.proofs.Common.{◌≡◌, map, take, Some}
use Rattle.json.specs.Json.{Json, document}
use Rattle.report_places.specs.Place.{ArePlacesOf}
use Rattle.json.specs.Tape.{node_token}
use Rattle.report_places.specs.OnTape.{IsIndexOf}
use Rattle.report_places.proofs.place.places_on.Given as goal

abbrev pub invariant-loop-pointer : goal.invariant-loop-pointer
invariant-loop-pointer l =
    ((value : Json) → document l.text ≡ Some value
    → ArePlacesOf l.text value (map (λ pointer. pointer.now) (take l.pointer-index l.pointers)) l.places.items)
    × IsIndexOf (map node_token l.nodes) l.index
