use Rattle.std.proofs.Common.{◌≡◌, ◌+◌, ◌≤◌, ◌==◌, not, length, take}
use Rattle.std.specs.List.{suffix_len}
use Rattle.finding_lines.proofs.message.last_name.Given as goal

abbrev pub invariant-loop-start : goal.invariant-loop-start
invariant-loop-start l =
    (l.start ≤ length l.pointer)
    × (l.start + suffix_len (λ b. not (b == 47)) l.pointer
    ≡ length l.pointer + suffix_len (λ b. not (b == 47)) (take l.start l.pointer))

abbrev pub decreases-loop-start : goal.decreases-loop-start
decreases-loop-start l = l.start
