use Rattle.std.proofs.Common.{sym, ap, ◌∙◌}
use Rattle.filing_model.specs.Text.{Route, bare}
use Rattle.intake_core.specs.Held.{limit_of, old_style_in}
use Rattle.gateway_requests.specs.Route.{view_message, view_route}
use Rattle.gateway_server.proofs.Answering.{IsDecided-message}
use Rattle.gateway_server.proofs.answer.mark_route.Goals as goal

pub returns-clause-marked : goal.returns-clause-marked
returns-clause-marked g c = λ clean before h.
    let decided = c.decide_route-decided.ensures.decided clean before h in
    let asked : Route = view_route c.args.asked c.args.message.now.body.now in (
      decided.0,
      decided.1,
      decided.2,
      IsDecided-message (limit_of c.args.intake.now) (old_style_in c.args.intake.now before) before decided.0
          (view_message c.args.message.now) (bare c.is_head.result asked) c.decide_route-decided.result
          c.args.marks.now.items c.push_reserved.new.self.items
          (c.requires.asked ∙ ap (λ b. bare b asked) (sym c.is_head.ensures))
          decided.3
          c.push_reserved.ensures.items,
    )
