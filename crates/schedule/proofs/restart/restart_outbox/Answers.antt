use Rattle.std.proofs.Common.{◌<◌, length, arith}
use Rattle.schedule.proofs.Entries.{element_at}
use Rattle.schedule.proofs.Steps.{restart_step, set_same}
use Rattle.schedule.proofs.restart.restart_outbox.Goals as goal

pub returns-clause-step : goal.returns-clause-step
returns-clause-step g c =
    let filers = c.args.filers.now.items in
    let filer = c.index_mut.result.now in
    let at = c.in-Some.ensures.some in
    let within : c.in-Some.at < length filers = omega (arith, at.1, c.len.ensures, c.args.filers.now.ok.0) in
    restart_step filers c.in-Some.at c.args.outbox at.0 filer
    (element_at filers c.in-Some.at filer within c.index_mut.ensures.value) c.restart.new.self
    c.in_ok-restart.ensures.restarted

pub returns-clause-stays : goal.returns-clause-stays
returns-clause-stays g c =
    let filers = c.args.filers.now.items in
    let filer = c.index_mut.result.now in
    let at = c.in-Some.ensures.some in
    let within : c.in-Some.at < length filers = omega (arith, at.1, c.len.ensures, c.args.filers.now.ok.0) in
    set_same (λ f. f.taken) filers c.in-Some.at filer c.restart.new.self
    (element_at filers c.in-Some.at filer within c.index_mut.ensures.value) c.in_ok-restart.ensures.stays
