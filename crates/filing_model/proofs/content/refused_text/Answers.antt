use Rattle.std.proofs.Common.{List, ◌++◌, ◌∷◌, [], ap, ◌∙◌, append_assoc, false}
use Rattle.std.specs.Prelude.{codes}
use Rattle.json.specs.Token.{Token, begin_object, key}
use Rattle.json.specs.Tree.{json_tokens, members_tokens}
use Rattle.serde_json.specs.Written.{members_outline, outline}
use Rattle.filing_model.specs.Answer.{Answer}
use Rattle.filing_model.specs.Reply.{answer_data, findings_data, refusal_members, refused_status}
use Rattle.filing_model.proofs.JsonTokens.{whole_text}
use Rattle.filing_model.proofs.content.refused_text.Goals as goal

pub returns : goal.returns
returns c =
    let members = refusal_members c.args.style (refused_status c.args.findings.now) (codes "refused") in
    let listed : List Token = json_tokens (outline (findings_data c.args.findings.now)) in
    let behind : List Token = members_tokens (members_outline members) in
    let opened =
    c.in_ok-key.ensures.ok ∙ ap (λ ts. ts ++ key (codes "findings") ∷ []) (c.in_ok-begin_object.ensures.ok
    ∙ ap (λ ts. ts ++ begin_object ∷ []) c.new-writer.ensures.tokens) in
    let found = rw c.list.ensures at c.in_ok-write_findings.ensures.more ∙ ap (λ ts. ts ++ listed) opened in
    whole_text (answer_data c.args.style (Answer.Refused c.args.findings.now false)) c.end_refusal.new.writer.before
    c.into_inner.result.items c.end_refusal.new.writer.tokens
    (c.in_ok-end_refusal.ensures.before ∙ c.in_ok-write_findings.ensures.before ∙ c.in_ok-key.ensures.room.0
    ∙ c.in_ok-begin_object.ensures.room.0 ∙ c.new-writer.ensures.before ∙ c.new.ensures.items)
    c.into_inner.ensures.items
    (rw c.refused_status.ensures at c.in_ok-end_refusal.ensures.more ∙ ap (λ ts. ts ++ behind) found
    ∙ append_assoc (begin_object ∷ key (codes "findings") ∷ []) listed behind)
