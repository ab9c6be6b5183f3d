use Rattle.std.proofs.Common.{rules}
use Rattle.event_script.proofs.Heads.{line_limit-alone}
use Rattle.event_script.proofs.event_line.read_limit_line.Goals as goal

pub returns-in_err-limit : goal.returns-in_err-limit
returns-in_err-limit c = search (rules, line_limit-alone c.args.line.now)
