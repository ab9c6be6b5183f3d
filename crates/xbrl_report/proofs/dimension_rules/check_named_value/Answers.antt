use Rattle.std.proofs.Common.{◌≡◌, true, false, sym}
use Rattle.xbrl_report.specs.Dimension.{has_colon}
use Rattle.xbrl_report.proofs.NamedDimensions.{of_named}
use Rattle.xbrl_report.proofs.dimension_rules.check_named_value.Goals as goal

pub returns-then-has_colon : goal.returns-then-has_colon
returns-then-has_colon c =
    let colon : has_colon c.args.name.now ≡ true = sym c.if-has_colon.ensures in
    rw (of_named _ _ _ _ _ c.requires true colon) c.check_named.ensures

pub returns-else-has_colon : goal.returns-else-has_colon
returns-else-has_colon c =
    let colon : has_colon c.args.name.now ≡ false = sym c.if-has_colon.ensures in
    rw (of_named _ _ _ _ _ c.requires false colon) c.report.ensures
