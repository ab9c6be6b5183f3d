use Rattle.std.proofs.Common.{rules, subst, refl, arith}
use Rattle.http_messages.specs.Head.{IsHead, IsHeadFault}
use Rattle.http_messages.proofs.MoreBytes.{IsBlockEnd-within}
use Rattle.gateway_requests.proofs.Completing.{first_block, none_short, begins_request, none_fault}
use Rattle.gateway_requests.proofs.completion.first_request.Goals as goal

pub returns-then-len-bytes-clause-none : goal.returns-then-len-bytes-clause-none
returns-then-len-bytes-clause-none c = λ _.
    let bytes = c.args.bytes.now in
    let front = first_block bytes c.in-End.end c.in-End.ensures in
    none_short bytes c.in-End.end c.in-End.ensures c.in-Ok.head c.body_length-len.result
    (subst (λ text. IsHead text c.in-Ok.head) front.1 c.in-Ok.ensures.ok.1) c.body_length-len.ensures.value
    (omega (arith, c.if-len-bytes.true))

pub returns-else-len-bytes-clause-some : goal.returns-else-len-bytes-clause-some
returns-else-len-bytes-clause-some c =
    let bytes = c.args.bytes.now in
    let front = first_block bytes c.in-End.end c.in-End.ensures in
    let low = (IsBlockEnd-within bytes c.in-End.end c.in-End.ensures).2 in
    begins_request bytes c.in-End.end c.in-End.ensures c.in-Ok.head c.body_length-len.result _
    (subst (λ text. IsHead text c.in-Ok.head) front.1 c.in-Ok.ensures.ok.1) c.body_length-len.ensures.value
    (omega (arith, low, c.if-len-bytes.false)) refl

pub returns-in-Err : goal.returns-in-Err
returns-in-Err c = record {
  some = tt;
  none = λ _.
      let bytes = c.args.bytes.now in
      let front = first_block bytes c.in-End.end c.in-End.ensures in
      none_fault bytes c.in-End.end c.in-End.ensures c.in-Err._fault (search rules)
      (subst (λ text. IsHeadFault text c.in-Err._fault) front.1 (c.in-Err.ensures.fault front.0));
}
