use Rattle.std.proofs.Common.{Some, None}
use Rattle.xbrl_report.proofs.NamedDimensions.{of_entity}
use Rattle.xbrl_report.proofs.dimension_rules.check_entity_value.Goals as goal

pub returns-in-None : goal.returns-in-None
returns-in-None c = rw (of_entity _ _ _ _ None c.in-None.ensures) c.report.ensures

pub returns-in-Some : goal.returns-in-Some
returns-in-Some c = rw (of_entity _ _ _ _ (Some c.in-Some.text.now) c.in-Some.ensures) c.check_entity.ensures
