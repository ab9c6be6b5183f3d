use Rattle.std.proofs.lemmas.Result.{err_from_is_err_and}
use Rattle.http_messages.specs.Replies.{reply_parts}
use Rattle.filer_client.proofs.Handing.{hands_over-moved, hands_over-refused}
use Rattle.filer_client.proofs.client.hand_over.Goals as goal

pub returns : goal.returns
returns g c =
    hands_over-moved g.S.Store g.R.Source c.args.outbox.now c.take.new.self c.args.id c.args.reader.now
    c.read_reply.new.reader
    (reply_parts c.in_ok-reply.reply) c.in_ok-take.field-0 c.in_ok-reply.ensures.ok c.in_ok-reply.ensures.fine
    c.in_ok-take.ensures

pub returns-in_err-take : goal.returns-in_err-take
returns-in_err-take g c =
    let told = err_from_is_err_and c.from_residual-in_err-take.result c.from_residual-in_err-take.ensures.1 in
    rw (told.1, told.2)
    (hands_over-refused g.S.Store g.R.Source c.args.outbox.now c.take.new.self c.args.id c.args.reader.now
    c.read_reply.new.reader
    (reply_parts c.in_ok-reply.reply) c.in_err-take.field-0.0 c.in_ok-reply.ensures.ok c.in_ok-reply.ensures.fine
    c.in_err-take.ensures)
