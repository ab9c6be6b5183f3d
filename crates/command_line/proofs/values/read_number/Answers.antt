use Rattle.std.proofs.Common.{◌∙◌}
use Rattle.command_line.proofs.ValueLemmas.{text_read}
use Rattle.command_line.proofs.values.read_number.Goals as goal

pub returns : goal.returns
returns c = c.ok.ensures.value ∙ text_read 64 c.args.text.now c.parse.result c.parse.ensures.value
