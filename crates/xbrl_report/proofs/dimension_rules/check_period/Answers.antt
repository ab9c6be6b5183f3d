use Rattle.std.proofs.Common.{◌≡◌, false, append-nil, sym}
use Rattle.xbrl_values.specs.Period.{is_backward}
use Rattle.xbrl_report.proofs.NamedDimensions.{forward-no_period, forward-one}
use Rattle.xbrl_report.proofs.dimension_rules.check_period.Goals as goal

pub returns-in-None : goal.returns-in-None
returns-in-None c =
    let forward : is_backward c.args.text.now ≡ false =
    forward-no_period c.args.text.now (sym c.in-None.ensures.form) in
    rw (← c.in-None.ensures.form, forward) c.report.ensures

pub returns-in-Some-At : goal.returns-in-Some-At
returns-in-Some-At c =
    let single = rw c.in-Some-At.field-0-is at c.in-Some-At.ensures.value in
    let forward : is_backward c.args.text.now ≡ false = forward-one c.args.text.now single.0 in
    rw (← c.in-Some-At.ensures.form, forward) (sym (append-nil c.args.found.now))
