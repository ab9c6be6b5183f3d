use Rattle.std.proofs.Common.{append-nil, rules}
use Rattle.xbrl_values.proofs.Measures.{measure-is_unit}
use Rattle.xbrl_report.proofs.Measures.{unbound_measure}
use Rattle.xbrl_report.proofs.dimension_rules.check_unit.Goals as goal

pub returns-in-Some : goal.returns-in-Some
returns-in-Some c =
    let measure = c.in-Some.ensures.0 in
    rw (unbound_measure _ measure _, measure-is_unit _ measure, append-nil, ← c.in-Some.ensures.1) (search rules)
