use Rattle.std.proofs.Common.{◌≡◌, vec_len}
use Rattle.gateway_rounds.proofs.group.moments_of.Given as goal

-- one for each turn
abbrev pub invariant-loop : goal.invariant-loop
invariant-loop l = vec_len l.moments ≡ l.counter
