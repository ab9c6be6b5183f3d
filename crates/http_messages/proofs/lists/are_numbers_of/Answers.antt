use Rattle.std.proofs.Common.{List, ℕ, ◌&&◌, refl, rules, tests}
use Rattle.std.specs.Prelude.{bytes_eq}
use Rattle.std.proofs.lemmas.Iterator.Consumers.{YieldsList-from_first}
use Rattle.std.proofs.lemmas.Iterator.Search.{all_from_yields_List}
use Rattle.http_messages.specs.Head.{is_number}
use Rattle.http_messages.specs.Lists.{significant}
use Rattle.http_messages.specs.PartsLeft.{parts_left}
use Rattle.http_messages.proofs.lists.are_numbers_of.Goals as goal

pub returns : goal.returns
returns c =
    let digits = c.args.digits.now in
    all_from_yields_List (λ (part : List ℕ). is_number part && bytes_eq (significant part) digits) c.all.new.self _
    c.all.result c.all.ensures.ran (YieldsList-from_first (λ x. x.now) parts_left {s = c.args.parts} _ refl)
    (λ x b q k. search (rules, tests))
