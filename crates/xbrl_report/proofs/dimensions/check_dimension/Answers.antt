use Rattle.xbrl_report.proofs.NamedDimensions.{other_name}
use Rattle.xbrl_report.proofs.dimensions.check_dimension.Goals as goal

pub check_named_value-requires : goal.check_named_value-requires
check_named_value-requires c =
    let none = c.in_default in
    other_name c.args.name.now none.not-concept none.not-entity none.not-period none.not-unit none.not-language
    none.not-noteId
