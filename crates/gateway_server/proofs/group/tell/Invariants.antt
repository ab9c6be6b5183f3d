use Rattle.std.proofs.Common.{◌≡◌, ◌≤◌, take, length}
use Rattle.std.specs.List.{All, AllZip}
use Rattle.std.specs.Prelude.{vec_capacity}
use Rattle.gateway_server.specs.Decided.{IsOfGiven, IsPhrased}
use Rattle.gateway_server.proofs.group.tell.Given as goal

-- the first ones have what they get
abbrev pub invariant-loop-at : goal.invariant-loop-at
invariant-loop-at l = record {
  many : length l.all.items ≡ l.at;
  are : AllZip IsOfGiven (take l.at l.results) l.all.items;
  phrases : All IsPhrased l.all.items;
  room : length l.results ≤ vec_capacity l.all;
}
