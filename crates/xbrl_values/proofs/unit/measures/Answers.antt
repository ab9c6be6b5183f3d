use Rattle.std.proofs.Common.{lit<}
use Rattle.std.proofs.lemmas.Iterator.Consumers.{map_from_collect}
use Rattle.std.proofs.lemmas.Iterator.Splits.{YieldsList-from_str_split}
use Rattle.xbrl_values.proofs.unit.measures.Goals as goal

pub returns : goal.returns
returns c =
    let split = c.split.ensures in
    rw (← c.without_parentheses.ensures) (map_from_collect c.collect.result c.collect.ensures.ran
    (YieldsList-from_str_split 42 c.without_parentheses.result.now (lit< tt) split.text split.has_more
    split.pattern))
