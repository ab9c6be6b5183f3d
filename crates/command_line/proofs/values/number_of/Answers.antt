use Rattle.clap.specs.Words.{found_of}
use Rattle.command_line.proofs.ValueLemmas.{number_read}
use Rattle.command_line.proofs.values.number_of.Goals as goal

pub returns : goal.returns
returns c = number_read 64 (found_of c.args.values.now) c.args.name.now _ c.get_one.ensures.none c.get_one.ensures.value
