use Rattle.std.proofs.Common.{List, ◌++◌, ◌∷◌, [], ap, ◌∙◌, map}
use Rattle.std.specs.Prelude.{codes}
use Rattle.json.specs.Token.{Token, begin_object, end_object, key}
use Rattle.json.specs.Tree.{json_tokens}
use Rattle.serde_json.specs.Written.{outline}
use Rattle.filing_model.specs.Reply.{list_data, listings_data}
use Rattle.filing_model.specs.Views.{view_row}
use Rattle.filing_model.proofs.JsonTokens.{whole_text}
use Rattle.filing_model.proofs.reply.list_text.Goals as goal

pub returns : goal.returns
returns c =
    let rows = map view_row c.args.rows.now in
    let listed : List Token = json_tokens (outline (listings_data rows)) in
    let opened =
    c.in_ok-key.ensures.ok ∙ ap (λ ts. ts ++ key (codes "filings") ∷ []) (c.in_ok-begin_object.ensures.ok
    ∙ ap (λ ts. ts ++ begin_object ∷ []) c.new-writer.ensures.tokens) in
    let found = c.in_ok-write_rows.ensures.more ∙ ap (λ ts. ts ++ listed) opened in
    whole_text (list_data rows) c.end_object.new.self.before c.into_inner.result.items c.end_object.new.self.tokens
    (c.in_ok-end_object.ensures.room.0 ∙ c.in_ok-write_rows.ensures.before ∙ c.in_ok-key.ensures.room.0
    ∙ c.in_ok-begin_object.ensures.room.0 ∙ c.new-writer.ensures.before ∙ c.new.ensures.items)
    c.into_inner.ensures.items
    (c.in_ok-end_object.ensures.ok ∙ ap (λ ts. ts ++ end_object ∷ []) found)
