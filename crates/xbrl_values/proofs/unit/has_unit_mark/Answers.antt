use Rattle.std.proofs.Common.{rules, tests}
use Rattle.std.proofs.lemmas.Iterator.Search.{any_from_yields_List}
use Rattle.std.proofs.lemmas.Iterator.Adapters.{YieldsList-from_bytes}
use Rattle.xbrl_values.specs.Unit.{is_unit_mark}
use Rattle.xbrl_values.proofs.unit.has_unit_mark.Goals as goal

pub returns : goal.returns
returns c =
    any_from_yields_List is_unit_mark _ _ c.any.result c.any.ensures.ran
    (YieldsList-from_bytes c.args.text.now c.bytes.ensures.rest) (λ x b q k. search (rules, tests))
