use Rattle.std.proofs.Common.{rules, tests}
use Rattle.std.proofs.lemmas.Iterator.Search.{all_from_yields_List}
use Rattle.std.proofs.lemmas.Iterator.Adapters.{YieldsList-from_bytes}
use Rattle.xbrl_values.specs.Pointer.{is_plain_byte}
use Rattle.xbrl_values.proofs.pointer.is_plain.Goals as goal

pub returns : goal.returns
returns c =
    all_from_yields_List is_plain_byte _ _ c.all.result c.all.ensures.ran
    (YieldsList-from_bytes c.args.name.now c.bytes.ensures.rest) (λ x b q k. search (rules, tests))
