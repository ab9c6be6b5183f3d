use Rattle.register_pages.proofs.Showing.{lines_more}
use Rattle.register_pages.proofs.refused.lines_of.Goals as goal

pub loop-finding-preserved : goal.loop-finding-preserved
loop-finding-preserved c =
    lines_more c.loop-finding.finding-index _ _ _ c.loop-finding.invariant c.in_ok-finding_line.ensures
