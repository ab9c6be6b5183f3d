use Rattle.std.proofs.Common.{rules, tests, is_lt}
use Rattle.std.proofs.lemmas.List.Sorted.{answers_always}
use Rattle.json_tree.proofs.Putting.{ascending_from_answer, by_name}
use Rattle.json_tree.proofs.order.is_ascending.Goals as goal

pub returns : goal.returns
returns c =
    ascending_from_answer c.args.members.now c.is_sorted_by.result
    (c.is_sorted_by.ensures.cases (λ x y. is_lt (by_name x.0 y.0))
    (answers_always _ _ _ (λ f a r f' called. search (rules, tests))))
