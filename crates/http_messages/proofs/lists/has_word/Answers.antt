use Rattle.std.proofs.Common.{ℕ, List, rules, tests, refl}
use Rattle.std.proofs.lemmas.Iterator.Consumers.{YieldsList-from_first}
use Rattle.std.proofs.lemmas.Iterator.Search.{any_from_yields_List}
use Rattle.http_messages.specs.Head.{same_name}
use Rattle.http_messages.specs.PartsLeft.{parts_left}
use Rattle.http_messages.proofs.lists.has_word.Goals as goal

pub returns : goal.returns
returns c =
    let word = c.args.word.now in
    any_from_yields_List (λ (part : List ℕ). same_name part word) c.any.new.self _ c.any.result c.any.ensures.ran
    (YieldsList-from_first (λ x. x.now) parts_left {s = c.args.parts} _ refl) (λ x b q k. search (rules, tests))
