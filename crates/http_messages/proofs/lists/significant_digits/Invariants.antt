use Rattle.std.proofs.Common.{◌≡◌, ◌==◌, length, drop}
use Rattle.std.specs.List.{prefix_len}
use Rattle.http_messages.proofs.lists.significant_digits.Given as goal

abbrev pub invariant-loop-first : goal.invariant-loop-first
invariant-loop-first l =
    drop (prefix_len (λ d. d == 48) l.digits) l.digits ≡ drop (prefix_len (λ d. d == 48) l.part) l.part

abbrev pub decreases-loop-first : goal.decreases-loop-first
decreases-loop-first l = length l.digits
