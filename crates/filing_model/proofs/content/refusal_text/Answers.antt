use Rattle.std.proofs.Common.{◌++◌, ◌∷◌, [], ap, ◌∙◌}
use Rattle.json.specs.Token.{begin_object}
use Rattle.json.specs.Tree.{members_tokens}
use Rattle.serde_json.specs.Data.{object}
use Rattle.serde_json.specs.Written.{members_outline}
use Rattle.filing_model.specs.Reply.{refusal_members}
use Rattle.filing_model.proofs.JsonTokens.{whole_text}
use Rattle.filing_model.proofs.content.refusal_text.Goals as goal

pub returns : goal.returns
returns c =
    let members = refusal_members c.args.style c.args.status c.args.word.now in
    whole_text (object members) c.end_refusal.new.writer.before c.into_inner.result.items
    c.end_refusal.new.writer.tokens
    (c.in_ok-end_refusal.ensures.before ∙ c.in_ok-begin_object.ensures.room.0 ∙ c.new-writer.ensures.before
    ∙ c.new.ensures.items)
    c.into_inner.ensures.items
    (c.in_ok-end_refusal.ensures.more
    ∙ ap (λ ts. ts ++ members_tokens (members_outline members)) (c.in_ok-begin_object.ensures.ok
    ∙ ap (λ ts. ts ++ begin_object ∷ []) c.new-writer.ensures.tokens))
