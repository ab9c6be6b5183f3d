use Rattle.std.proofs.Common.{◌≡◌, take, map}
use Rattle.std.specs.List.{All}
use Rattle.intake_core.specs.Calls.{IsRequest}
use Rattle.gateway_rounds.specs.Groups.{asked_in}
use Rattle.gateway_rounds.proofs.group.requests_of.Given as goal

-- the first ones
abbrev pub invariant-loop-new : goal.invariant-loop-new
invariant-loop-new g l = record {
  are : l.requests.items ≡ map (asked_in l.hall) (take l.new-index l.group);
  requests : All IsRequest l.requests.items;
}
