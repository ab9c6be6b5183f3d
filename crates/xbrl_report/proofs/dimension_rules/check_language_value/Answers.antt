use Rattle.std.proofs.Common.{Some, None}
use Rattle.xbrl_report.proofs.NamedDimensions.{of_language}
use Rattle.xbrl_report.proofs.dimension_rules.check_language_value.Goals as goal

pub returns-in-None : goal.returns-in-None
returns-in-None c = rw (of_language _ _ _ _ None c.in-None.ensures) c.report.ensures

pub returns-in-Some : goal.returns-in-Some
returns-in-Some c =
    rw (of_language _ _ _ _ (Some c.in-Some.text.now) c.in-Some.ensures, ← c.is_language.ensures) c.report_if.ensures
