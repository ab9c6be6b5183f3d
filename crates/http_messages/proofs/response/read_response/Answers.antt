use Rattle.std.proofs.Common.{◌≡◌, length, rules}
use Rattle.http_messages.specs.Head.{HasPlainLines}
use Rattle.http_messages.proofs.ResponseLemmas.{response_parts, ReadsResponseHead-parsed}
use Rattle.http_messages.proofs.response.read_response.Goals as goal

pub returns-in-Ok-Complete : goal.returns-in-Ok-Complete
returns-in-Ok-Complete c =
    let block = c.args.block.now in
    let headers = c.parse_response.new.headers in
    let head = c.in-Ok-Complete.head in
    let within = rw c.in-Ok-Complete.field-0-is at c.in-Ok-Complete.ensures.within in
    let read = rw c.in-Ok-Complete.field-0-is at c.in-Ok-Complete.ensures.complete in
    let room : length headers ≡ 64 = search rules in
    let lines : HasPlainLines block = search rules in
    let whole : head.len ≡ length block = c.if-head-block.true in (
      response_parts block headers head,
      ReadsResponseHead-parsed block headers head room whole lines within read,
      record { status = search rules; kind = search rules; content_len = search rules },
    )
