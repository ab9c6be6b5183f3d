use Rattle.std.proofs.Common.{◌≡◌, ◌≤◌, take}
use Rattle.register_pages.specs.Short.{characters}
use Rattle.register_pages.proofs.short.characters.Given as goal

abbrev pub invariant-loop-byte : goal.invariant-loop-byte
invariant-loop-byte l =
    record { counted : l.count ≡ characters (take l.byte-index l.bytes); low : l.count ≤ l.byte-index }
