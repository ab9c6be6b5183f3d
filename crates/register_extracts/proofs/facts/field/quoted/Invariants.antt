use Rattle.std.proofs.Common.{◌≡◌, ◌++◌, take}
use Rattle.std.specs.List.{flat_map}
use Rattle.register_extracts.specs.Fields.{doubled}
use Rattle.register_extracts.proofs.facts.field.quoted.Given as goal

abbrev pub invariant-loop-byte : goal.invariant-loop-byte
invariant-loop-byte l = l.field.items ≡ l.initial.field.items ++ flat_map doubled (take l.byte-index l.text)
