use Rattle.std.proofs.Common.{◌≡◌, ◌++◌, take, drop}
use Rattle.report_places.specs.Shown.{first_characters}
use Rattle.report_places.proofs.shown.characters_len.Given as goal

abbrev pub invariant-loop-index : goal.invariant-loop-index
invariant-loop-index l =
    first_characters 60 l.bytes ≡ take l.index l.bytes ++ first_characters l.left (drop l.index l.bytes)
