use Rattle.std.proofs.Common.{lit<}
use Rattle.std.proofs.lemmas.Str.Pattern.{strip_suffix_char}
use Rattle.xbrl_values.proofs.Parentheses.{before_closing-from_strip}
use Rattle.xbrl_values.proofs.unit.before_closing.Goals as goal

pub returns : goal.returns
returns c =
    before_closing-from_strip c.args.text.now c.strip_suffix.result
    (strip_suffix_char 41 c.args.text.now c.strip_suffix.result c.strip_suffix.ensures.cases (lit< tt))
