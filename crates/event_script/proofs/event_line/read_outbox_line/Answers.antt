use Rattle.std.proofs.Common.{rules}
use Rattle.event_script.proofs.Heads.{line_filer-alone}
use Rattle.event_script.proofs.event_line.read_outbox_line.Goals as goal

pub returns-in_err-filer : goal.returns-in_err-filer
returns-in_err-filer c = search (rules, line_filer-alone c.args.line.now)
