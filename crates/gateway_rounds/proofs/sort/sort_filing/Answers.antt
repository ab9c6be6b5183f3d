use Rattle.filing_model.specs.Views.{the_request}
use Rattle.gateway_requests.specs.Route.{view_message}
use Rattle.gateway_rounds.proofs.Decided.{repeat_looks}
use Rattle.gateway_rounds.proofs.sort.sort_filing.Goals as goal

pub returns-in-Repeat-clause-looks : goal.returns-in-Repeat-clause-looks
returns-in-Repeat-clause-looks g c =
    let looked = c.look_up-looked in
    repeat_looks g.S.Store (view_message c.args.request.now) c.decided_by.result c.closes.result
    (the_request c.args.filer.now c.args.key c.args.target c.args.request.now.body.now) c.in-Repeat.answer
    c.requires.asked c.closes.ensures c.decided_by.ensures.given c.args.intake.now looked.new.self
    looked.ensures.looks
    (λ clean before holds. let tells = c.in-Repeat.ensures.tells clean before holds in (tells.0, tells.1))
