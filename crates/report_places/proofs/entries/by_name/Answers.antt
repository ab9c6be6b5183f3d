use Rattle.std.proofs.Common.{rules, tests}
use Rattle.std.proofs.lemmas.List.Sorted.{answers_always}
use Rattle.report_places.proofs.ByName.{before, weak, same_values}
use Rattle.report_places.proofs.entries.by_name.Goals as goal

pub returns-clause-by_name : goal.returns-clause-by_name
returns-clause-by_name c =
    c.in_ok-sort_by.ensures.sorted before weak
    (answers_always _ _ _ (λ f a r f' called. search (rules, tests)))

pub returns-clause-same : goal.returns-clause-same
returns-clause-same c =
    same_values c.args.entries.items c.sort_by.new.self.items (c.sort_by.ensures.stable before weak
    (answers_always _ _ _ (λ f a r f' called. search (rules, tests))))
