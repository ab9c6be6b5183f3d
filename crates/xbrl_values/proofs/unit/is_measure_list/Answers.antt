use Rattle.std.proofs.Common.{lit<, rules, tests}
use Rattle.std.proofs.lemmas.Iterator.Search.{all_from_yields_List}
use Rattle.std.proofs.lemmas.Iterator.Splits.{YieldsList-from_str_split}
use Rattle.xbrl_values.specs.Unit.{is_measure, is_measure_list}
use Rattle.xbrl_values.proofs.unit.is_measure_list.Goals as goal

pub returns : goal.returns
unfolding is_measure_list
returns c =
    let split = c.split.ensures in
    all_from_yields_List is_measure _ _ c.all.result c.all.ensures.ran
    (YieldsList-from_str_split 42 c.args.text.now (lit< tt) split.text split.has_more split.pattern)
    (λ x b q k. search (rules, tests))
