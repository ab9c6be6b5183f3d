use Rattle.std.proofs.Common.{◌≡◌, ◌++◌, List, [], length, map, drop, IsUtf8}
use Rattle.json.specs.Json.{Json}
use Rattle.json.specs.Token.{Token}
use Rattle.json.specs.Tape.{node_token}
use Rattle.json.specs.Tree.{json_tokens}
use Rattle.report_places.specs.Lead.{along, lead, parts_of}
use Rattle.report_places.specs.OnTape.{IsIndexOf}
use Rattle.report_places.proofs.lead.lead_of.Given as goal

abbrev pub invariant-parts : goal.invariant-parts
invariant-parts l =
    ((value : Json) → map node_token l.nodes ≡ json_tokens value
    → (v : Json) × (rest : List Token) × (drop l.token (map node_token l.nodes) ≡ json_tokens v ++ rest)
    × (lead l.pointer value ≡ along (parts_of [] l.rest) l.token v))
    × IsUtf8 l.rest × IsIndexOf (map node_token l.nodes) l.index

abbrev pub decreases-parts : goal.decreases-parts
decreases-parts l = length l.rest
