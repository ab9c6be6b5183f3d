use Rattle.std.proofs.Common.{◌∙◌, rules, tests}
use Rattle.std.proofs.lemmas.List.{take_rest}
use Rattle.std.proofs.lemmas.Iterator.{YieldsList-from_slice}
use Rattle.std.proofs.lemmas.Iterator.Consumers.{count_from_yields_List}
use Rattle.std.proofs.lemmas.Iterator.Search.{YieldsList-from_take_while}
use Rattle.std.proofs.lemmas.List.Folds.{length-prefix_len}
use Rattle.register_tables.specs.Walk.{is_stray}
use Rattle.register_tables.proofs.opening.walk.from_first.Goals as goal

pub returns : goal.returns
returns c =
    let rows = c.args.rows.now in
    let strays =
    count_from_yields_List c.take_while.result _ c.count-strays.ensures.ran
    (YieldsList-from_take_while _ is_stray (YieldsList-from_slice rows (cc)) c.take_while.ensures.closure
    c.take_while.ensures.done (λ x b q k. search (rules, tests)))
    ∙ length-prefix_len is_stray rows in
    rw (take_rest, strays)
