use Rattle.std.proofs.Common.{true, Some, None, refl, true≢false, ◌+◌, ◌∙◌, subst}
use Rattle.http_messages.specs.declared.refusal.ConnFault.TheVariants.{Memory}
use Rattle.filing_model.specs.declared.served.Ended.TheVariants.{Fault}
use Rattle.http_messages.specs.Message.{Refused}
use Rattle.filing_model.specs.Text.{reply_text_with}
use Rattle.gateway_server.specs.Stopping.{IsBefore, IsStoppedAfter, view_stop}
use Rattle.gateway_server.proofs.Transitions.{refusal_before, refusal_unmarked, refusal_replied}
use Rattle.gateway_server.proofs.Written.{WritesTexts-same, WritesTexts-reply}
use Rattle.gateway_server.proofs.serving.serve_refusal.Goals as goal

pub returns-then-is_before-clause-serves : goal.returns-then-is_before-clause-serves
returns-then-is_before-clause-serves g c = λ requests first beside inbox h.
    refusal_before requests first beside (g.W.Sink.written c.args.writer.now) inbox c.args.refusal
    c.args.marks.now.items h (view_stop c.args.stop)
    (subst (λ n. IsBefore (view_stop c.args.stop) (n + 1)) (c.len-number.ensures
    ∙ c.args.marks.now.ok.0) c.if-is_before.ensures)

pub returns-clause-serves : goal.returns-clause-serves
returns-clause-serves g c = λ requests first beside inbox h.
    let is = c.in-Ok.ensures.marked requests.limit requests.old_style requests.after in
    refusal_replied requests first beside (g.W.Sink.written c.args.writer.now) inbox c.args.refusal
    c.args.marks.now.items h (view_stop c.args.stop)
    c.mark_refusal.new.marks.items (g.W.Sink.written c.reply.new.writer) c.reply.result
    is.marked (c.reply.ensures.written (reply_text_with requests.old_style requests.after (Refused c.args.refusal)
    is.marked.mark) is.reply)
    (subst (λ n. IsStoppedAfter (view_stop c.args.stop) (n + 1) c.reply.result) (c.len-number.ensures
    ∙ c.args.marks.now.ok.0) c.reply.ensures.stops)

pub returns-in-Err-clause-serves : goal.returns-in-Err-clause-serves
returns-in-Err-clause-serves g c = λ requests first beside inbox h.
    refusal_unmarked requests first beside (g.W.Sink.written c.args.writer.now) inbox c.args.refusal
    c.args.marks.now.items h (view_stop c.args.stop) c.mark_refusal.new.marks.items
    (c.in-Err.ensures.marked requests.limit requests.old_style requests.after).1

pub returns-clause-closes : goal.returns-clause-closes
returns-clause-closes g c = λ on. true≢false (c.reply.ensures.goes_on on)

-- ---- what went out

pub returns-then-is_before-clause-texts : goal.returns-then-is_before-clause-texts
returns-then-is_before-clause-texts g c = WritesTexts-same (g.W.Sink.written c.args.writer.now) None refl

pub returns-in-Err-clause-texts : goal.returns-in-Err-clause-texts
returns-in-Err-clause-texts g c = WritesTexts-same (g.W.Sink.written c.args.writer.now) (Some (Fault Memory)) refl

pub returns-clause-texts : goal.returns-clause-texts
returns-clause-texts g c =
    WritesTexts-reply (g.W.Sink.written c.args.writer.now) (g.W.Sink.written c.reply.new.writer) c.in-Ok.decided.reply
    true c.reply.result c.reply.ensures.written
