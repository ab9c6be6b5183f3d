use Rattle.std.proofs.Common.{◌≡◌, length, refl, rules}
use Rattle.http_messages.specs.Head.{HasPlainLines}
use Rattle.http_messages.specs.declared.head.HeadSpans.{HeadSpans}
use Rattle.http_messages.proofs.HeadLemmas.{AreSpansOf, IsHeadWithin-parsed, ReadsHead-parsed}
use Rattle.http_messages.proofs.head.parse_head.Goals as goal

pub returns-in_ok-copied-in-Ok-Complete-clause-ok : goal.returns-in_ok-copied-in-Ok-Complete-clause-ok
returns-in_ok-copied-in-Ok-Complete-clause-ok c =
    let block = c.args.block.now in
    let headers = c.parse_request.new.headers in
    let head = c.in-Ok-Complete.head in
    let span = c.in_ok-path_span-in-Ok-Complete.field-0 in
    let within = rw c.in-Ok-Complete.field-0-is at c.in-Ok-Complete.ensures.within in
    let read = rw c.in-Ok-Complete.field-0-is at c.in-Ok-Complete.ensures.complete in
    let path = c.in_ok-path_span-in-Ok-Complete.ensures in
    let whole = c.if-head-block.true in
    let room : length headers ≡ 64 = search rules in
    let lines : HasPlainLines block = search rules in
    let spans : HeadSpans =
    record {
      method = head.method;
      path = span;
      minor = head.version;
      fields =
          c.in_ok-copied-in-Ok-Complete.field-0;
    } in
    let are : AreSpansOf head headers span spans =
    record { method = refl; path_is = refl; minor = refl; fields = search rules } in (
      IsHeadWithin-parsed block headers head span spans room whole are within path.within,
      ReadsHead-parsed block headers head span spans room whole are lines within read path.ok,
    )
