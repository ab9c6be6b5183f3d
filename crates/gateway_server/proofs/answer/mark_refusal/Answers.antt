use Rattle.std.proofs.Common.{◌∙◌, ap, ◌++◌, ◌∷◌, []}
use Rattle.filing_model.specs.declared.served.Mark.TheVariants.{NotFiled}
use Rattle.gateway_server.proofs.Answering.{IsDecided-refusal}
use Rattle.gateway_server.proofs.answer.mark_refusal.Goals as goal

pub returns-clause-marked : goal.returns-clause-marked
returns-clause-marked c =
    λ limit old_style before. IsDecided-refusal limit old_style before c.args.refusal c.refusal_reply.result
    c.args.marks.now.items c.push_reserved.new.self.items c.refusal_reply.ensures.parts (c.push_reserved.ensures.items
    ∙ ap (λ ms. ms ++ NotFiled ∷ []) c.in_ok-reserve.ensures.items)
