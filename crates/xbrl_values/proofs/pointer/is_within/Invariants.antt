use Rattle.std.proofs.Common.{◌≡◌, ◌+◌, length, map, drop}
use Rattle.xbrl_values.specs.Pointer.{pointer}
use Rattle.xbrl_values.proofs.pointer.is_within.Given as goal

abbrev pub invariant-loop-name : goal.invariant-loop-name
invariant-loop-name l =
    l.room + length (pointer (map (λ n. n.now) l.path))
    ≡ l.limit + length (pointer (map (λ n. n.now) (drop l.name-index l.path)))
