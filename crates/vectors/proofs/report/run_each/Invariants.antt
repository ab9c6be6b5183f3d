use Rattle.std.proofs.Common.{◌≡◌, All, map, take}
use Rattle.vectors.specs.Report.{IsWhole}
use Rattle.vectors.proofs.report.run_each.Given as goal

abbrev pub invariant-loop-number : goal.invariant-loop-number
invariant-loop-number l = record {
  numbers : map (λ o. o.number) l.outcomes.items ≡ take l.number-index l.numbers;
  whole : All IsWhole l.outcomes.items;
}
