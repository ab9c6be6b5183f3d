use Rattle.std.proofs.Common.{◌∙◌}
use Rattle.clap.specs.Words.{found_of}
use Rattle.command_line.proofs.ValueLemmas.{flag_read}
use Rattle.command_line.proofs.values.is_set.Goals as goal

pub returns : goal.returns
returns c = c.unwrap_or.ensures
    ∙ flag_read (found_of c.args.values.now) c.args.name.now _ c.get_one.ensures.none c.get_one.ensures.value
