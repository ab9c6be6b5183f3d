use Rattle.std.proofs.Common.{◌≡◌, ◌++◌, map, drop, suc}
use Rattle.filing_world.specs.Headline.{states_from}
use Rattle.schedule.specs.Filers.{boxes, takens}
use Rattle.schedule.specs.Listed.{view_listed}
use Rattle.schedule.proofs.listing.states_of_all.Given as goal

abbrev pub invariant-loop-at : goal.invariant-loop-at
invariant-loop-at g l = record {
  same : boxes l.filers.items ≡ boxes l.fn.filers.items;
  stays : takens l.filers.items ≡ takens l.fn.filers.items;
  list : map view_listed l.list.items ++ states_from (suc l.at) (drop l.at (boxes l.fn.filers.items))
      ≡ states_from 1 (boxes l.fn.filers.items);
}
