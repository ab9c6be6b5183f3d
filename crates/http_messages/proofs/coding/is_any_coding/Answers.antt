use Rattle.std.proofs.Common.{rules, tests, refl}
use Rattle.std.proofs.lemmas.Iterator.Consumers.{YieldsList-from_first}
use Rattle.std.proofs.lemmas.Iterator.Search.{any_from_yields_List}
use Rattle.http_messages.specs.Coding.{is_coding}
use Rattle.http_messages.specs.PartsLeft.{parts_left}
use Rattle.http_messages.proofs.coding.is_any_coding.Goals as goal

pub returns : goal.returns
returns c =
    any_from_yields_List is_coding c.any.new.self _ c.any.result c.any.ensures.ran
    (YieldsList-from_first (λ x. x.now) parts_left {s = c.args.parts} _ refl) (λ x b q k. search (rules, tests))
