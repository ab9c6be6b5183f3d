use Rattle.std.proofs.Common.{◌≡◌, false, sym, subst, rules}
use Rattle.std.proofs.lemmas.Result.{err_from_is_err_and}
use Rattle.http_wire.specs.ReplyFaults.{IsReplyFailure}
use Rattle.http_wire.specs.ReplyReading.{IsHeadFailure, IsContentFailure}
use Rattle.http_messages.specs.Response.{is_interim}
use Rattle.http_wire.proofs.ReplyLemmas.{HasSkipped-none, HasSkipped-head, head_failure, length_failure}
use Rattle.http_wire.proofs.ReplyLemmas.{content_failure, reply_given}
use Rattle.http_wire.proofs.reply_reader.read_reply.Goals as goal

pub loop-received-init : goal.loop-received-init
loop-received-init g c = record {
  skipped =
      HasSkipped-none _ c.in_ok-received.received c.in_ok-received.ensures.0 c.in_ok-received.ensures.1;
  fine = search rules;
}

pub loop-received-preserved : goal.loop-received-preserved
loop-received-preserved g c = record {
  skipped =
      HasSkipped-head _ _ _ c.loop-received.received c.take_head.new.received c.in_ok-head.head
      c.loop-received.invariant.skipped c.in_ok-head.ensures.head (search rules);
  fine = search rules;
}

pub returns-in_err-head-clause-fault : goal.returns-in_err-head-clause-fault
returns-in_err-head-clause-fault g c =
    let fault = c.in_err-head.field-0.0 in
    let failure =
    subst (λ count. IsHeadFailure (g.R.Source.left c.loop-received.reader) (g.R.Source.left c.take_head.new.reader)
    count (g.R.Source.read_failures c.take_head.new.reader) c.loop-received.received c.take_head.new.received fault)
    c.loop-received.invariant.fine c.in_err-head.ensures.fault in
    let gives = err_from_is_err_and c.from_residual-in_err-head.result c.from_residual-in_err-head.ensures.1 in
    rw gives.1 (subst (IsReplyFailure _ _ _ _) (sym gives.2)
    (head_failure _ _ _ _ _ c.loop-received.received c.take_head.new.received fault
    c.loop-received.invariant.skipped failure))

pub returns-then-not-is_interim-clause-ok : goal.returns-then-not-is_interim-clause-ok
returns-then-not-is_interim-clause-ok g c =
    let final : is_interim c.in_ok-head.head.status ≡ false = search rules in
    let content = c.in_ok-content.ensures.content in
    reply_given _ _ _ c.loop-received.received c.take_head.new.received c.in_ok-head.head
    c.loop-received.invariant.skipped c.in_ok-head.ensures.head final _ c.take_content.new.received
    c.in_ok-head-2.field-0 c.in_ok-head-2.was c.in_ok-content.content.items content.0 content.1

pub returns-in_err-head-2-clause-fault : goal.returns-in_err-head-2-clause-fault
returns-in_err-head-2-clause-fault g c =
    let fault = c.in_err-head-2.field-0.0 in
    let final : is_interim c.in_ok-head.head.status ≡ false = search rules in
    let fine : g.R.Source.read_failures c.take_head.new.reader ≡ g.R.Source.read_failures c.args.reader.now =
    search rules in
    let failure =
    length_failure _ _ _ c.loop-received.received c.take_head.new.received c.in_ok-head.head
    c.loop-received.invariant.skipped c.in_ok-head.ensures.head final (g.R.Source.read_failures c.args.reader.now)
    (g.R.Source.read_failures c.take_head.new.reader) fault fine c.in_err-head-2.was in
    let gives = err_from_is_err_and c.from_residual-in_err-head-2.result c.from_residual-in_err-head-2.ensures.1 in
    rw gives.1 (subst (IsReplyFailure _ _ _ _) (sym gives.2) failure)

pub returns-in_err-content-clause-fault : goal.returns-in_err-content-clause-fault
returns-in_err-content-clause-fault g c =
    let fault = c.in_err-content.field-0.0 in
    let final : is_interim c.in_ok-head.head.status ≡ false = search rules in
    let fine : g.R.Source.read_failures c.take_head.new.reader ≡ g.R.Source.read_failures c.args.reader.now =
    search rules in
    let failure =
    subst (λ count. IsContentFailure (g.R.Source.left c.take_head.new.reader)
    (g.R.Source.left c.take_content.new.reader) count (g.R.Source.read_failures c.take_content.new.reader)
    c.take_head.new.received c.take_content.new.received c.in_ok-head-2.field-0 fault) fine
    c.in_err-content.ensures.fault in
    let told =
    content_failure _ _ _ c.loop-received.received c.take_head.new.received c.in_ok-head.head
    c.loop-received.invariant.skipped c.in_ok-head.ensures.head final _ c.take_content.new.received
    c.in_ok-head-2.field-0 c.in_ok-head-2.was (g.R.Source.read_failures c.args.reader.now)
    (g.R.Source.read_failures c.take_content.new.reader) fault failure in
    let gives = err_from_is_err_and c.from_residual-in_err-content.result c.from_residual-in_err-content.ensures.1 in
    rw gives.1 (subst (IsReplyFailure _ _ _ _) (sym gives.2) told)
