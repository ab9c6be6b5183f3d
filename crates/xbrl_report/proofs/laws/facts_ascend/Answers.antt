use Rattle.xbrl_report.proofs.FactOrder.{facts-ascend}
use Rattle.xbrl_report.proofs.laws.facts_ascend.Goals as goal

pub returns : goal.returns
returns c = facts-ascend
