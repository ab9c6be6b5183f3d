use Rattle.std.proofs.Common.{◌≡◌, ◌≤◌, length, ap, ◌∙◌, arith}
use Rattle.std.specs.Prelude.{if◌then◌else◌}
use Rattle.httparse.specs.Spans.{span_bytes}
use Rattle.http_uri.specs.Uri.{uri_path}
use Rattle.http_messages.specs.Head.{before_query, written_path}
use Rattle.http_messages.proofs.HeadLemmas.{before_query-at, before_query-end, end-at, written_path-at}
use Rattle.http_messages.proofs.target.path_span.Goals as goal
use Rattle.http_messages.proofs.target.path_span.Goals.{then-ends_with, else-ends_with}

pub returns-clause-ok : goal.returns-clause-ok
returns-clause-ok c =
    let block = c.args.block.now in
    let target = span_bytes block c.args.target in
    let shown = c.before_query-shown.result.now in
    let path = c.as_bytes-path.result.now in
    let is : shown ≡ before_query target = c.before_query-shown.ensures ∙ ap before_query c.of-text.ensures in
    let len-is : c.if-ends_with.len ≡ (if c.ends_with.result then length path else 0) =
    elim c.if-ends_with.branch [ then-ends_with w ↦ grind (arith) | else-ends_with w ↦ grind (arith) ] in
    let short : c.if-ends_with.len ≤ length shown =
    elim c.if-ends_with.branch [
      | then-ends_with w ↦ grind (
        arith,
        c.ends_with.ensures.bound,
      )
      | else-ends_with w ↦ omega arith
    ] in
    let front = rw (← is) at (before_query-at block c.args.target.start c.args.target.end) in
    let place = end-at block shown c.args.target.start c.if-ends_with.len front short in
    let written =
    written_path-at target shown path c.ends_with.result c.if-ends_with.len is c.ends_with.ensures.value len-is in
    let uri = c.in-Ok.uri in
    let same : path ≡ uri_path uri = cc in
    (uri, rw (← c.of-text.ensures) c.in-Ok.ensures.ok, place ∙ written ∙ ap (written_path target) same)

pub overflow_add-end : goal.overflow_add-end
overflow_add-end c =
    let end =
    before_query-end c.args.block.now _ _ c.args.target c.requires c.of-text.ensures c.before_query-shown.ensures in
    omega (arith, end)

pub overflow_sub-result : goal.overflow_sub-result
overflow_sub-result c = elim c.if-ends_with.branch [
  | then-ends_with w ↦ omega (arith, w.len-is, c.ends_with.ensures.bound w.if-ends_with.true)
  | else-ends_with w ↦ omega (arith, w.len-is)
]

pub returns-clause-within : goal.returns-clause-within
returns-clause-within c =
    let end =
    before_query-end c.args.block.now _ _ c.args.target c.requires c.of-text.ensures c.before_query-shown.ensures in
    (omega arith, omega (arith, end, c.requires.1))
