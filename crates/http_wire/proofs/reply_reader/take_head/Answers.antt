use Rattle.std.proofs.Common.{Ok, subst, sym, ap, ◌∙◌, arith}
use Rattle.std.proofs.lemmas.Result.{err_from_is_err_and}
use Rattle.std.specs.Prelude.{slice_range}
use Rattle.http_messages.specs.Block.{skipped_len}
use Rattle.http_messages.specs.ReplyFaults.{IsNoResponse}
use Rattle.http_messages.specs.ResponseBlock.{IsResponseBlock}
use Rattle.http_wire.specs.ReplyReading.{IsHeadFailure}
use Rattle.http_wire.proofs.TakeLemmas.{Takes-receives, TakesHead-found, head_failure-read, head-shorter}
use Rattle.http_wire.proofs.reply_reader.take_head.Goals as goal

pub returns-in_err-end : goal.returns-in_err-end
returns-in_err-end g c =
    let told =
    head_failure-read _ _ _ _ c.args.received.now c.read_block.new.self c.in_err-end.field-0.0
    c.read_block.ensures.reads.receives c.in_err-end.ensures.unended c.in_err-end.ensures.reads.fault in
    let gives = err_from_is_err_and c.from_residual.result c.from_residual.ensures.1 in
    record {
      head = rw gives.1 tt;
      reads = rw gives.1 tt;
      less = rw gives.1 tt;
      fine = rw gives.1 tt;
      fault = rw gives.1 (subst (IsHeadFailure _ _ _ _ c.args.received.now c.read_block.new.self) (sym gives.2) told);
    }

pub returns-in-TooLong-clause-fault : goal.returns-in-TooLong-clause-fault
returns-in-TooLong-clause-fault g c = (
  c.in_ok-end.ensures.reads.fine,
  Takes-receives _ _ c.args.received.now c.read_block.new.self c.read_block.ensures.reads.receives,
  rw c.in-TooLong.is at c.in_ok-end.ensures.block,
)

pub returns-in-More-clause-fault : goal.returns-in-More-clause-fault
returns-in-More-clause-fault g c =
    let unended = rw c.in-More.is at c.in_ok-end.ensures.block in (
      c.in_ok-end.ensures.reads.fine,
      Takes-receives _ _ c.args.received.now c.read_block.new.self c.read_block.ensures.reads.receives,
      unended,
      c.read_block.ensures.end (c.in_ok-end.was ∙ ap Ok c.in-More.is),
    )

pub returns-in-Some : goal.returns-in-Some
returns-in-Some g c =
    let old = c.args.received.now in
    let mid = c.read_block.new.self in
    let new = c.drop_front.new.self in
    let end = c.in-End.end in
    let block = rw c.in-End.is at c.in_ok-end.ensures.block in
    let here =
    subst (λ k. IsResponseBlock (slice_range c.bytes-bytes.result.now k end) c.in-Some.head)
    c.skipped_len.ensures.value c.in-Some.ensures in
    let is = subst (λ held. IsResponseBlock (slice_range held (skipped_len held) end) c.in-Some.head)
    c.bytes-bytes.ensures.value here in
    let read = c.read_block.ensures.reads.receives in
    let left = c.drop_front.ensures in
    record {
      head = TakesHead-found _ _ old mid new c.in-Some.head end read block is left.bytes left.reads;
      reads = omega (arith, read.reads, left.reads);
      less = head-shorter _ _ old mid new end read block left.bytes left.reads;
      fine = c.in_ok-end.ensures.reads.fine;
      fault = tt;
    }

pub returns-in-None-clause-fault : goal.returns-in-None-clause-fault
returns-in-None-clause-fault g c =
    let end = c.in-End.end in
    let block = rw c.in-End.is at c.in_ok-end.ensures.block in
    let here =
    subst (λ k. IsNoResponse (slice_range c.bytes-bytes.result.now k end)) c.skipped_len.ensures.value
    c.in-None.ensures in
    let none =
    subst (λ held. IsNoResponse (slice_range held (skipped_len held) end)) c.bytes-bytes.ensures.value here in (
      c.in_ok-end.ensures.reads.fine,
      Takes-receives _ _ c.args.received.now c.read_block.new.self c.read_block.ensures.reads.receives,
      (end, block, none),
    )
