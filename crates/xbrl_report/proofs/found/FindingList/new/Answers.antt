use Rattle.xbrl_report.proofs.Fits.{fits-nil}
use Rattle.xbrl_report.proofs.found.FindingList.new.Goals as goal

pub invariant_of-result : goal.invariant_of-result
invariant_of-result c = rw c.new.ensures.items fits-nil
