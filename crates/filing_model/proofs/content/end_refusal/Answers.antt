use Rattle.std.proofs.Common.{◌++◌, ◌∷◌, [], ◌∙◌, decimal, unwrap_or}
use Rattle.std.specs.Prelude.{codes}
use Rattle.std.proofs.lemmas.Result.{on_ok_weaker}
use Rattle.http_messages.specs.Reply.{phrase}
use Rattle.json.specs.Token.{end_object, key, number, string}
use Rattle.filing_model.proofs.JsonTokens.{behind}
use Rattle.filing_model.proofs.content.end_refusal.Goals as goal

pub returns-in_ok-write_text-in-Problem-3 : goal.returns-in_ok-write_text-in-Problem-3
returns-in_ok-write_text-in-Problem-3 c =
    let old = c.args.writer.now.tokens in
    let reason = key (codes "reason") ∷ string c.args.word.now ∷ [] in
    let status = key (codes "status") ∷ number (decimal c.args.status) ∷ [] in
    let title = key (codes "title") ∷ string (unwrap_or (phrase c.args.status) []) ∷ [] in
    let kind = key (codes "type") ∷ string (codes "about:blank") ∷ [] in
    let second =
    behind old reason status c.write_text-in-Problem.new.writer.tokens c.write_number.new.writer.tokens
    c.in_ok-write_text-in-Problem.ensures.more (rw c.from.ensures
    at c.in_ok-write_number-in-Problem.ensures.more) in
    let third =
    behind old (reason ++ status) title c.write_number.new.writer.tokens c.write_text-in-Problem-2.new.writer.tokens
    second (rw c.title_of.ensures at c.in_ok-write_text-in-Problem-2.ensures.more) in
    let fourth =
    behind old (reason ++ (status ++ title)) kind c.write_text-in-Problem-2.new.writer.tokens
    c.write_text-in-Problem-3.new.writer.tokens third c.in_ok-write_text-in-Problem-3.ensures.more in
    rw c.in-Problem.is
    (record {
      more = on_ok_weaker c.end_object-in-Problem.result
          (λ m. behind old (reason ++ (status ++ (title ++ kind))) (end_object ∷ [])
          c.write_text-in-Problem-3.new.writer.tokens c.end_object-in-Problem.new.self.tokens fourth m)
          c.end_object-in-Problem.ensures.ok;
      before = c.end_object-in-Problem.ensures.room.0 ∙ c.in_ok-write_text-in-Problem-3.ensures.before
          ∙ c.in_ok-write_text-in-Problem-2.ensures.before ∙ c.in_ok-write_number-in-Problem.ensures.before
          ∙ c.in_ok-write_text-in-Problem.ensures.before;
    })
