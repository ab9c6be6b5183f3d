use Rattle.std.proofs.Common.{◌≡◌, ◌+◌, drop}
use Rattle.register_pages.specs.Short.{first_bytes}
use Rattle.register_pages.proofs.short.first_bytes.Given as goal

abbrev pub invariant-loop-index : goal.invariant-loop-index
invariant-loop-index l = first_bytes l.count l.bytes ≡ l.index + first_bytes l.left (drop l.index l.bytes)
