use Rattle.std.proofs.Common.{◌≡◌, string_bytes, map, take}
use Rattle.xbrl_values.specs.Pointer.{pointer}
use Rattle.xbrl_values.proofs.pointer.pointer.Given as goal

abbrev pub invariant-loop-name : goal.invariant-loop-name
invariant-loop-name l = string_bytes l.place ≡ pointer (map (λ n. n.now) (take l.name-index l.path))
