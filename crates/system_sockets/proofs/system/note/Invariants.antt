use Rattle.std.proofs.Common.{◌≡◌, ◌++◌, take}
use Rattle.system_sockets.specs.Seen.{bytes_in}
use Rattle.system_sockets.proofs.system.note.Given as goal

abbrev pub invariant-loop-byte : goal.invariant-loop-byte
invariant-loop-byte l = bytes_in l.log.items ≡ bytes_in l.fn.log.items ++ take l.byte-index l.bytes
