use Rattle.std.proofs.Common.{List, ◌≡◌, ◌++◌, ◌∷◌, [], ap, sym, ◌∙◌, append_assoc, decimal}
use Rattle.std.specs.Prelude.{codes}
use Rattle.std.proofs.lemmas.Result.{on_ok_weaker}
use Rattle.json.specs.Token.{Token, begin_object, end_object, key, number}
use Rattle.json.specs.Tree.{json_tokens}
use Rattle.serde_json.specs.Data.{no_members}
use Rattle.serde_json.specs.Written.{outline}
use Rattle.filing_model.specs.Reply.{listing_data, number_member}
use Rattle.filing_model.specs.Views.{view_row}
use Rattle.filing_model.proofs.JsonTokens.{behind}
use Rattle.filing_model.specs.Writing.{number_tokens}
use Rattle.filing_model.proofs.ListTokens.{number_first}
use Rattle.filing_model.proofs.reply.write_row.Goals as goal

pub returns : goal.returns
returns c =
    let l = view_row c.args.row.now in
    let old = c.args.writer.now.tokens in
    let facts : List Token = key (codes "facts") ∷ number (decimal l.facts) ∷ [] in
    let own : List Token = key (codes "number") ∷ number (decimal l.number) ∷ [] in
    let front : List Token = begin_object ∷ (facts ++ own) in
    let by = number_tokens (codes "replaced_by") l.replaced_by in
    let replaced = number_tokens (codes "replaces") l.replaces in
    let second =
    behind old (begin_object ∷ []) facts c.begin_object.new.self.tokens c.write_number.new.writer.tokens
    c.in_ok-begin_object.ensures.ok c.in_ok-write_number.ensures.more in
    let third =
    behind old (begin_object ∷ facts) own c.write_number.new.writer.tokens c.write_number-2.new.writer.tokens second
    c.in_ok-write_number-2.ensures.more in
    let fourth =
    behind old front by c.write_number-2.new.writer.tokens c.write_if_some.new.writer.tokens third
    c.in_ok-write_if_some.ensures.more in
    let fifth =
    behind old (front ++ by) replaced c.write_if_some.new.writer.tokens c.write_if_some-2.new.writer.tokens fourth
    c.in_ok-write_if_some-2.ensures.more in
    let whole : (front ++ by) ++ (replaced ++ (end_object ∷ [])) ≡ json_tokens (outline (listing_data l)) =
    append_assoc front by (replaced ++ end_object ∷ [])
    ∙ ap (λ ts. front ++ ts) (sym (number_first (codes "replaced_by") l.replaced_by
    (number_member (codes "replaces") l.replaces no_members)
    ∙ ap (λ ts. by ++ ts) (number_first (codes "replaces") l.replaces no_members))) in
    record {
      more = on_ok_weaker c.end_object.result
          (λ m. behind old ((front ++ by) ++ replaced) (end_object ∷ []) c.write_if_some-2.new.writer.tokens
          c.end_object.new.self.tokens fifth m
          ∙ ap (λ ts. old ++ ts) (append_assoc (front ++ by) replaced (end_object ∷ []) ∙ whole))
          c.end_object.ensures.ok;
      before = c.end_object.ensures.room.0 ∙ c.in_ok-write_if_some-2.ensures.before
          ∙ c.in_ok-write_if_some.ensures.before ∙ c.in_ok-write_number-2.ensures.before
          ∙ c.in_ok-write_number.ensures.before ∙ c.in_ok-begin_object.ensures.room.0;
    }
