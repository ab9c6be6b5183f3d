use Rattle.xbrl_report.proofs.NamedDimensions.{of_note}
use Rattle.xbrl_report.proofs.dimension_rules.check_note_value.Goals as goal

pub returns : goal.returns
returns c = rw (of_note _ _ _ _, ← c.is_text.ensures) c.report_if.ensures
