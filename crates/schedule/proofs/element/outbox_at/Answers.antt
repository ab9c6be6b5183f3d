use Rattle.std.proofs.Common.{refl}
use Rattle.schedule.proofs.Lending.{lent_at, not_lent}
use Rattle.schedule.proofs.Entries.{element_at}
use Rattle.schedule.proofs.Steps.{away_past}
use Rattle.schedule.proofs.element.outbox_at.Goals as goal

pub returns-in_err-at-clause-none : goal.returns-in_err-at-clause-none
returns-in_err-at-clause-none g c = λ _. away_past c.args.filers.now c.args.outbox (c.in_err-at.ensures.none refl)

pub returns-clause-lent : goal.returns-clause-lent
returns-clause-lent g c =
    let filer = c.index-filers-at.result in
    let at = c.in_ok-at.ensures.some in
    lent_at c.args.filers.now c.args.outbox c.in_ok-at.at filer at.0
    (element_at c.args.filers.now c.in_ok-at.at filer at.1 c.index-filers-at.is) c.outbox.result
    c.outbox.ensures.lent.0 c.outbox.ensures.keeps

pub returns-clause-none : goal.returns-clause-none
returns-clause-none g c =
    let filer = c.index-filers-at.result in
    let at = c.in_ok-at.ensures.some in
    not_lent c.args.filers.now c.args.outbox c.in_ok-at.at filer at.0
    (element_at c.args.filers.now c.in_ok-at.at filer at.1 c.index-filers-at.is) c.outbox.result
    c.outbox.ensures.lent.1
