use Rattle.std.proofs.Common.{◌∙◌}
use Rattle.clap.proofs.WalkLemmas.{first_value-rows}
use Rattle.clap.specs.Words.{found_of}
use Rattle.command_line.specs.Values.{value}
use Rattle.command_line.proofs.values.value_of.Goals as goal

pub returns : goal.returns
unfolding value
returns c = c.get_str.ensures ∙ first_value-rows (found_of c.args.values.now) c.args.name.now
