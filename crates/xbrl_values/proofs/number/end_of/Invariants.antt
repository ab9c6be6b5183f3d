use Rattle.std.proofs.Common.{◌≡◌, ◌≤◌, ◌+◌, ◌-◌, length, take}
use Rattle.std.specs.List.{suffix_len}
use Rattle.xbrl_values.specs.Number.{is_space}
use Rattle.xbrl_values.proofs.number.end_of.Given as goal

abbrev pub decreases-loop-end : goal.decreases-loop-end
decreases-loop-end l = l.end

abbrev pub invariant-loop-end : goal.invariant-loop-end
invariant-loop-end l =
    (l.end ≤ length l.bytes) × (suffix_len is_space l.bytes
    ≡ (length l.bytes - l.end) + suffix_len is_space (take l.end l.bytes))
