use Rattle.std.proofs.Common.{◌≡◌, ◌+◌, filter, map, take, vec_len}
use Rattle.vectors.specs.Report.{fails}
use Rattle.vectors.proofs.report.report_of.Given as goal

abbrev pub invariant-loop-outcome : goal.invariant-loop-outcome
invariant-loop-outcome l = record {
  failed : l.failed.items ≡ map (λ o. o.number) (filter fails (take l.outcome-index l.outcomes));
  counted : l.passed + vec_len l.failed ≡ l.outcome-index;
}
