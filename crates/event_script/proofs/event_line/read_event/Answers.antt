use Rattle.std.proofs.Common.{rules}
use Rattle.event_script.specs.Words.{is_space}
use Rattle.event_script.specs.Lines.{line_event}
use Rattle.event_script.proofs.Parts.{list_any-alone}
use Rattle.event_script.proofs.event_line.read_event.Goals as goal

pub returns-in-None : goal.returns-in-None
unfolding line_event
returns-in-None c = search (rules, list_any-alone is_space c.args.line.now)
