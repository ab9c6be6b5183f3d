use Rattle.std.proofs.Common.{◌≡◌, ◌+◌, length}
use Rattle.std.specs.Str.Iter.{bytes_rest}
use Rattle.xbrl_values.specs.Pointer.{escaped}
use Rattle.xbrl_values.proofs.pointer.room_after.Given as goal

abbrev pub invariant-loop-byte : goal.invariant-loop-byte
invariant-loop-byte l =
    l.room + (length (escaped l.name) + 1) ≡ l.fn.room + length (escaped (bytes_rest l.byte-iterator))
