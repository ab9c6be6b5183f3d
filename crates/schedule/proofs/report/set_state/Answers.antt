use Rattle.std.proofs.Common.{◌<◌, ◌≤◌, ◌-◌, length, arith}
use Rattle.filing_model.specs.Views.{view_state}
use Rattle.schedule.proofs.Entries.{state_written, state_of_none}
use Rattle.schedule.proofs.report.set_state.Goals as goal

pub returns-then-at-len : goal.returns-then-at-len
returns-then-at-len c =
    let reports = c.args.reports.now.items in
    let within : c.args.number - 1 < length reports = omega arith in
    rw c.set_state.ensures (state_written reports c.args.number c.index_mut-report.result.now (view_state c.args.state)
    c.if-number-eq0.false within c.index_mut-report.ensures.value)

pub returns-else-at-len : goal.returns-else-at-len
returns-else-at-len c =
    let reports = c.args.reports.now.items in
    let past : length reports ≤ c.args.number - 1 = omega arith in
    state_of_none reports c.args.number (view_state c.args.state) c.if-number-eq0.false past
