use Rattle.std.proofs.Common.{◌≢◌, ◌-◌, min, length, Ok, refl, sym, ap, subst, ◌∙◌, arith}
use Rattle.std.proofs.lemmas.Result.{err_from_is_err_and}
use Rattle.http_wire.specs.ReplyReading.{IsContentFailure}
use Rattle.http_wire.proofs.ReceivedLemmas.{Receives-nil}
use Rattle.http_wire.proofs.TakeLemmas.{Takes-receives, Takes-turn, Turn-of, content_failure}
use Rattle.http_wire.proofs.reply_reader.take_content.Goals as goal

pub loop-content-init : goal.loop-content-init
loop-content-init g c =
    let old = c.args.received.now in
    let none = c.new-content.ensures.items in
    record {
      takes = rw none (Takes-receives _ _ old old (Receives-nil _ _));
      fine = refl;
      short = let size = ap length none in omega (arith, size);
    }

pub returns-then-len-clause-content : goal.returns-then-len-clause-content
returns-then-len-clause-content g c =
    let held = c.bytes-held.result.now in
    let new = c.extend_from_slice.new.self in
    let left = c.drop_front.ensures in (
      Takes-turn _ _ c.args.received.now c.loop-content.received c.drop_front.new.self _ new.items held
          c.min-count.result c.loop-content.invariant.takes c.bytes-held.ensures.value
          c.in_ok-extend_from_slice.ensures.items left.bytes left.reads,
      sym new.ok.0 ∙ sym c.len-in-loop-content.ensures ∙ c.if-len.true,
    )

pub returns-in_err-extend_from_slice-clause-fault : goal.returns-in_err-extend_from_slice-clause-fault
returns-in_err-extend_from_slice-clause-fault g c =
    let gives = err_from_is_err_and c.from_residual.result c.from_residual.ensures.1 in
    rw gives.1 (subst (IsContentFailure _ _ _ _ c.args.received.now c.loop-content.received c.args.len) (sym gives.2)
    c.loop-content.invariant.fine)

pub returns-in_err-read_more-clause-fault : goal.returns-in_err-read_more-clause-fault
returns-in_err-read_more-clause-fault g c =
    let held = c.bytes-held.result.now in
    let items = c.extend_from_slice.new.self.items in
    let least =
    c.min-count.ensures ∙ ap (λ n. min (length held) (c.args.len - n)) (c.len.ensures
    ∙ c.loop-content.content.ok.0) in
    let other : length items ≢ c.args.len =
    λ same. c.if-len.false (c.len-in-loop-content.ensures ∙ c.extend_from_slice.new.self.ok.0 ∙ same) in
    let turn =
    Turn-of _ _ _ c.args.received.now c.loop-content.received c.drop_front.new.self c.read_more.new.self _ items
    held c.min-count.result c.args.len c.loop-content.invariant.takes c.loop-content.invariant.short
    c.bytes-held.ensures.value least c.in_ok-extend_from_slice.ensures.items other c.drop_front.ensures.bytes
    c.drop_front.ensures.reads c.read_more.ensures.reads.receives in
    let failure =
    content_failure _ _ _ _ _ _ c.args.received.now c.read_more.new.self items c.args.len
    c.in_err-read_more.field-0.0 turn.takes (c.in_err-read_more.ensures.same
    ∙ turn.empty) turn.short c.loop-content.invariant.fine c.in_err-read_more.ensures.reads.fault refl in
    let gives =
    err_from_is_err_and c.from_residual-in_err-read_more.result c.from_residual-in_err-read_more.ensures.1 in
    rw gives.1 (subst (IsContentFailure _ _ _ _ c.args.received.now c.read_more.new.self c.args.len) (sym gives.2)
    failure)

pub returns-then-not-branch-clause-fault : goal.returns-then-not-branch-clause-fault
returns-then-not-branch-clause-fault g c =
    let held = c.bytes-held.result.now in
    let items = c.extend_from_slice.new.self.items in
    let least =
    c.min-count.ensures ∙ ap (λ n. min (length held) (c.args.len - n)) (c.len.ensures
    ∙ c.loop-content.content.ok.0) in
    let other : length items ≢ c.args.len =
    λ same. c.if-len.false (c.len-in-loop-content.ensures ∙ c.extend_from_slice.new.self.ok.0 ∙ same) in
    let turn =
    Turn-of _ _ _ c.args.received.now c.loop-content.received c.drop_front.new.self c.read_more.new.self _ items
    held c.min-count.result c.args.len c.loop-content.invariant.takes c.loop-content.invariant.short
    c.bytes-held.ensures.value least c.in_ok-extend_from_slice.ensures.items other c.drop_front.ensures.bytes
    c.drop_front.ensures.reads c.read_more.ensures.reads.receives in
    let end = c.read_more.ensures.end (c.in_ok-read_more.was ∙ ap Ok c.if-not-branch.true) in (
      c.in_ok-read_more.ensures.reads.fine ∙ c.loop-content.invariant.fine,
      (items, turn.takes, end.0 ∙ turn.empty, turn.short),
      end.1,
    )

pub loop-content-preserved : goal.loop-content-preserved
loop-content-preserved g c =
    let held = c.bytes-held.result.now in
    let items = c.extend_from_slice.new.self.items in
    let least =
    c.min-count.ensures ∙ ap (λ n. min (length held) (c.args.len - n)) (c.len.ensures
    ∙ c.loop-content.content.ok.0) in
    let other : length items ≢ c.args.len =
    λ same. c.if-len.false (c.len-in-loop-content.ensures ∙ c.extend_from_slice.new.self.ok.0 ∙ same) in
    let turn =
    Turn-of _ _ _ c.args.received.now c.loop-content.received c.drop_front.new.self c.read_more.new.self _ items
    held c.min-count.result c.args.len c.loop-content.invariant.takes c.loop-content.invariant.short
    c.bytes-held.ensures.value least c.in_ok-extend_from_slice.ensures.items other c.drop_front.ensures.bytes
    c.drop_front.ensures.reads c.read_more.ensures.reads.receives in
    record {
      takes = turn.takes;
      fine = c.in_ok-read_more.ensures.reads.fine ∙ c.loop-content.invariant.fine;
      short =
          omega (arith, turn.short);
    }

-- where the input ends before it, no content is given
pub returns-then-not-branch-clause-content : goal.returns-then-not-branch-clause-content
returns-then-not-branch-clause-content g c = tt
