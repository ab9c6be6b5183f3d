use Rattle.std.proofs.Common.{◌≡◌, ◌∙◌, sym, ap₂, refl, List, ℕ, Some, string_bytes}
use Rattle.http_messages.specs.Replies.{reply_parts}
use Rattle.filing_model.specs.Request.{Request}
use Rattle.receipts.specs.Text.{receipt_text}
use Rattle.receipts.proofs.receipt.receipt_of.Goals as goal

pub returns : goal.returns
returns c = record {
  reply = reply_parts c.in_ok-reply.reply;
  answered = c.in_ok-reply.ensures;
  settles = rw c.in-Same.is at c.in_ok-said_of.ensures;
  when = string_bytes c.in_ok-moment.moment;
  moment_is = c.in_ok-moment.ensures;
  of_entry = refl;
  tells = λ request sendable same.
      let found : Some c.in-Some.sent ≡ Some request =
      sym c.in-Some.is ∙ c.in_ok-sent.ensures request sendable same in
      let is : c.in-Some.sent ≡ request = cc in (
        is,
        c.in_ok-text.ensures
            ∙ ap₂ (λ (r : Request) (m : List ℕ). receipt_text c.args.exchange.now.id r
            (reply_parts c.in_ok-reply.reply) m c.args.port) is c.as_str.ensures.value,
      );
}
