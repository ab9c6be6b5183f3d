use Rattle.std.proofs.Common.{◌≡◌, ◌+◌, take}
use Rattle.std.specs.List.{sum_by}
use Rattle.gateway_rounds.proofs.new.is_full.Given as goal

-- what is left of the room
abbrev pub invariant-loop-at : goal.invariant-loop-at
invariant-loop-at l = l.room + (sum_by (λ new. new.len) (take l.at l.group) + l.len) ≡ 4194304
