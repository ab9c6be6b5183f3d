use Rattle.std.proofs.Common.{lit<}
use Rattle.std.proofs.lemmas.Iterator.Consumers.{map_from_collect}
use Rattle.std.proofs.lemmas.Iterator.Splits.{YieldsList-from_str_split}
use Rattle.event_script.proofs.words.split_words.Goals as goal

pub returns : goal.returns
returns c =
    let split = c.split.ensures in
    map_from_collect c.collect.result c.collect.ensures.ran
    (YieldsList-from_str_split 32 c.args.line.now (lit< tt) split.text split.has_more split.pattern)
