use Rattle.std.proofs.Common.{inl, inr}
use Rattle.outbox_commands.proofs.putting.read_report.Goals as goal

pub returns-in-Err-clause-refused : goal.returns-in-Err-clause-refused
returns-in-Err-clause-refused g c = inl (inr (c.args.file, c.in-Err.ensures.0, c.in-Err.ensures.1))
