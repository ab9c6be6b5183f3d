use Rattle.std.proofs.Common.{Some, None, refl, ◌≡◌, ◌+◌, ◌≤◌, ◌∙◌, length, ap, sym, subst, IfOk, Bool, vec_len, arith}
use Rattle.http_messages.specs.declared.refusal.ConnFault.TheVariants.{Memory}
use Rattle.filing_model.specs.declared.served.Ended.TheVariants.{Fault}
use Rattle.http_messages.specs.Head.{closes, max_body_len}
use Rattle.http_wire.specs.Inbox.{held, lent_len}
use Rattle.http_messages.specs.Message.{Read}
use Rattle.http_messages.specs.Replies.{reply_parts}
use Rattle.http_messages.specs.Reply.{render}
use Rattle.http_messages.specs.Request.{Request as Message}
use Rattle.filing_model.specs.Serving.{keeping}
use Rattle.filing_model.specs.Stopping.{ComeBefore}
use Rattle.filing_model.specs.Text.{reply_text_with}
use Rattle.intake_core.specs.Held.{limit_of, old_style_in}
use Rattle.gateway_server.specs.Answered.{IsDecided}
use Rattle.gateway_requests.specs.Route.{view_message}
use Rattle.gateway_server.specs.Stopping.{IsBefore, IsStoppedAfter, view_stop}
use Rattle.gateway_server.proofs.Lent.{lent_is, body_short}
use Rattle.gateway_server.proofs.Stopping.{IsCountAt-next}
use Rattle.gateway_server.proofs.Transitions.{message_before, message_unmarked, message_replied}
use Rattle.gateway_server.proofs.Written.{WritesTexts-same, WritesTexts-reply}
use Rattle.gateway_server.proofs.serving.serve_message.Goals as goal

pub mark-requires : goal.mark-requires
mark-requires g c =
    let m : Message = view_message c.message-message.result in
    let same = lent_is c.args.inbox.now c.requires.lends m c.message-message.ensures in
    subst (λ (r : Message). length r.body ≤ max_body_len) same
    (body_short (held c.args.inbox.now) c.requires.lends.request (lent_len c.args.inbox.now)
    c.requires.lends.begins)

pub returns-then-is_before-clause-serves : goal.returns-then-is_before-clause-serves
returns-then-is_before-clause-serves g c = λ clean now kept. (
  now,
  kept,
  refl,
  λ before first beside h.
      message_before (keeping (limit_of c.args.intake.now) (old_style_in c.args.intake.now now) before now) first beside
      (g.W.Sink.written c.args.writer.now) c.args.inbox.now c.args.marks.now.items h (view_stop c.args.stop)
      (subst (λ n. IsBefore (view_stop c.args.stop) (n + 1)) (c.len-number.ensures
      ∙ c.args.marks.now.ok.0) c.if-is_before.ensures),
)

pub returns-clause-serves : goal.returns-clause-serves
returns-clause-serves g c = λ clean now kept.
    let decided = c.in-Ok.ensures.marked clean now kept in (
      decided.0,
      decided.1,
      decided.2,
      λ before first beside h.
          let m : Message = view_message c.message-message.result in
          let old = c.args.marks.now.items in
          let new = c.mark.new.marks.items in
          let same : m ≡ h.lends.request = sym (lent_is c.args.inbox.now h.lends m c.message-message.ensures) in
          let close : c.closes.result ≡ closes h.lends.request.head =
          c.closes.ensures ∙ ap (λ (r : Message). closes r.head) same in
          let is = subst (λ (r : Message). IsDecided (limit_of c.args.intake.now) (old_style_in c.args.intake.now now)
          now decided.0 (Read r) old new c.in-Ok.decided) same decided.3 in
          message_replied (keeping (limit_of c.args.intake.now) (old_style_in c.args.intake.now now) before now) first
          beside (g.W.Sink.written c.args.writer.now) c.args.inbox.now old h (view_stop c.args.stop)
          decided.0 new (g.W.Sink.written c.reply.new.writer) c.closes.result c.reply.result
          close is.marked
          (c.reply.ensures.written (reply_text_with (old_style_in c.args.intake.now now) now (Read h.lends.request)
          is.marked.mark) (subst (λ (b : Bool). IfOk c.in-Ok.decided.reply
          (λ r. render (reply_parts r) b ≡ reply_text_with (old_style_in c.args.intake.now now) now
          (Read h.lends.request) is.marked.mark)) (sym close) is.reply))
          (subst (λ n. IsStoppedAfter (view_stop c.args.stop) (n + 1) c.reply.result) (c.len-number.ensures
          ∙ c.args.marks.now.ok.0) c.reply.ensures.stops),
    )

pub returns-clause-counted : goal.returns-clause-counted
returns-clause-counted g c =
    IsCountAt-next (view_stop c.args.stop) c.len-number.result (vec_len c.mark.new.marks) c.reply.result
    (subst (ComeBefore (view_stop c.args.stop)) (sym c.len-number.ensures) c.requires.count) c.if-is_before.ensures
    c.reply.ensures.stops (omega (arith, c.in-Ok.ensures.counted, c.len-number.ensures))

pub returns-in-Err-clause-serves : goal.returns-in-Err-clause-serves
returns-in-Err-clause-serves g c = λ clean now kept.
    let decided = c.in-Err.ensures.marked clean now kept in (
      decided.0,
      decided.1,
      decided.2,
      λ before first beside h.
          message_unmarked (keeping (limit_of c.args.intake.now) (old_style_in c.args.intake.now now) before now) first
          beside (g.W.Sink.written c.args.writer.now) c.args.inbox.now c.args.marks.now.items h
          (view_stop c.args.stop)
          decided.0 c.mark.new.marks.items decided.3.0 decided.3.1,
    )

-- ---- what went out

pub returns-then-is_before-clause-texts : goal.returns-then-is_before-clause-texts
returns-then-is_before-clause-texts g c = WritesTexts-same (g.W.Sink.written c.args.writer.now) None refl

pub returns-in-Err-clause-texts : goal.returns-in-Err-clause-texts
returns-in-Err-clause-texts g c = WritesTexts-same (g.W.Sink.written c.args.writer.now) (Some (Fault Memory)) refl

pub returns-clause-texts : goal.returns-clause-texts
returns-clause-texts g c =
    WritesTexts-reply (g.W.Sink.written c.args.writer.now) (g.W.Sink.written c.reply.new.writer) c.in-Ok.decided.reply
    c.closes.result c.reply.result c.reply.ensures.written
