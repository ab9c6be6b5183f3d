use Rattle.std.proofs.Common.{rules, tests}
use Rattle.std.proofs.lemmas.List.Sorted.{IsPartitionPoint-from_clause}
use Rattle.report_places.specs.Entries.{is_at_most}
use Rattle.report_places.proofs.ByName.{parted}
use Rattle.report_places.proofs.entries.end_of_name.Goals as goal

pub returns-clause-end : goal.returns-clause-end
returns-clause-end c =
    let es = c.args.entries.now in
    let name = c.args.name.now in
    IsPartitionPoint-from_clause (is_at_most name) es c.partition_point.result c.partition_point.ensures.partitioned
    (parted name es c.requires) (λ a r f' called. search (rules, tests))
