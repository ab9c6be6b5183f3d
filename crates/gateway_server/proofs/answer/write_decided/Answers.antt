use Rattle.std.proofs.KnownBytes.{Appends-nil}
use Rattle.http_messages.specs.Replies.{reply_parts}
use Rattle.http_messages.specs.Reply.{render}
use Rattle.gateway_server.proofs.Answering.{WritesText-reply}
use Rattle.gateway_server.proofs.answer.write_decided.Goals as goal

pub returns-in-Ok-clause-written : goal.returns-in-Ok-clause-written
returns-in-Ok-clause-written g c = λ text is.
    let same = rw c.in-Ok.is at is in
    WritesText-reply g.W.Sink c.args.writer.now c.write_reply.new.writer text
    (render (reply_parts c.in-Ok.reply) c.args.close) c.write_reply.result same c.write_reply.ensures.ok
    c.write_reply.ensures.fault

-- where there was no memory for the reply, nothing of it is written
pub returns-in-Err-clause-written : goal.returns-in-Err-clause-written
returns-in-Err-clause-written g c = λ text is. Appends-nil (g.W.Sink.written c.args.writer.now)
