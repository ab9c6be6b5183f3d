use Rattle.std.proofs.Common.{lit<}
use Rattle.std.proofs.lemmas.Str.Pattern.{strip_prefix_char}
use Rattle.xbrl_values.proofs.Parentheses.{after_opening-from_strip}
use Rattle.xbrl_values.proofs.unit.after_opening.Goals as goal

pub returns : goal.returns
returns c =
    after_opening-from_strip c.args.text.now c.strip_prefix.result
    (strip_prefix_char 40 c.args.text.now c.strip_prefix.result c.strip_prefix.ensures.cases (lit< tt))
