use Rattle.std.proofs.Common.{◌≡◌, ◌+◌, ◌++◌, take, map, Err, vec_len, vec_capacity}
use Rattle.intake_core.specs.declared.intake.Unavailable.TheVariants.{Store}
use Rattle.intake_core.proofs.intake.Intake.refuse_group.Given as goal

-- the first ones are refused
abbrev pub invariant-loop-request : goal.invariant-loop-request
invariant-loop-request g l = record {
  are : l.results.items ≡ l.fn.results.items ++ map (λ _. Err Store) (take l._request-index l.requests);
  len : vec_len l.results ≡ vec_len l.fn.results + l._request-index;
  room : vec_capacity l.results ≡ vec_capacity l.fn.results;
}
