use Rattle.std.proofs.Common.{sym}
use Rattle.xbrl_values.proofs.Calendar.{moment-no_slash}
use Rattle.xbrl_values.proofs.period.read_period.Goals as goal

pub returns-in-Some : goal.returns-in-Some
returns-in-Some c =
    let none = moment-no_slash c.args.text.now (sym c.in-Some.ensures.form) in
    record { form = rw none c.in-Some.ensures.form; value = (none, c.in-Some.ensures.value) }
