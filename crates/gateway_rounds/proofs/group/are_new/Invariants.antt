use Rattle.std.proofs.Common.{◌≡◌, take, true}
use Rattle.std.specs.List.{All}
use Rattle.gateway_rounds.proofs.group.are_new.Given as goal

-- the first ones are
abbrev pub invariant-loop-at : goal.invariant-loop-at
invariant-loop-at l = All (λ new. new.is_new ≡ true) (take l.at l.group)
