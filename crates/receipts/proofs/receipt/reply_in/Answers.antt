use Rattle.std.proofs.Common.{Some, subst}
use Rattle.std.specs.Prelude.{Option, List, ℕ}
use Rattle.http_messages.specs.Replies.{reply_parts}
use Rattle.http_messages.specs.Response.{GivesReply}
use Rattle.http_wire.specs.Devices.{device_inner, device_failures}
use Rattle.http_wire.specs.ReplyFaults.{HasGiven, IsReplyFailure}
use Rattle.receipts.proofs.receipt.reply_in.Goals as goal

pub returns-in-Ok : goal.returns-in-Ok
returns-in-Ok c =
    let rest : Option (List ℕ) = Some (device_inner c.read_reply.new.reader).now in (
      rest,
      subst (λ inner. HasGiven (Some inner.now) rest (λ front. GivesReply front (reply_parts c.in-Ok.reply)))
          c.new-reader.ensures.inner c.in-Ok.ensures.ok,
    )

pub returns-in-Err : goal.returns-in-Err
returns-in-Err c =
    let rest : Option (List ℕ) = Some (device_inner c.read_reply.new.reader).now in
    let failures : ℕ = device_failures c.read_reply.new.reader in (
      rest,
      failures,
      subst (λ count. IsReplyFailure (Some c.args.bytes.now) rest count failures c.in-Err.fault)
          c.new-reader.ensures.failures
          (subst (λ inner. IsReplyFailure (Some inner.now) rest (device_failures c.new-reader.result) failures
          c.in-Err.fault) c.new-reader.ensures.inner c.in-Err.ensures.fault),
    )
