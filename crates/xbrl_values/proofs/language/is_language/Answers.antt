use Rattle.std.proofs.Common.{◌≡◌, rules, tests}
use Rattle.std.proofs.lemmas.Iterator.Search.{all_from_yields_List}
use Rattle.std.proofs.lemmas.Iterator.Adapters.{YieldsList-from_bytes}
use Rattle.std.proofs.lemmas.Bool.Decides.{nat_tests}
use Rattle.std.specs.List.{list_all}
use Rattle.xbrl_values.specs.Language.{is_language, is_language_byte}
use Rattle.std.proofs.Common.{arith}
use Rattle.xbrl_values.proofs.language.is_language.Goals as goal

pub returns-then-not-is_empty : goal.returns-then-not-is_empty
unfolding is_language
returns-then-not-is_empty c =
    let all : c.all.result ≡ list_all is_language_byte c.args.text.now =
    all_from_yields_List is_language_byte _ _ c.all.result c.all.ensures.ran
    (YieldsList-from_bytes c.args.text.now c.bytes.ensures.rest) (λ x b q k. search (rules, tests)) in
    grind (arith, nat_tests)
