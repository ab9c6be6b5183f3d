use Rattle.std.proofs.Common.{ℕ, List, ◌++◌, length, drop, Ok, subst, subst₂, refl, sym, ap, ◌∙◌, rules}
use Rattle.std.proofs.lemmas.Bool.{false≢true}
use Rattle.std.proofs.lemmas.Result.{err_from_is_err_and}
use Rattle.http_messages.specs.Block.{from_block, HasNoEndUpTo, IsBlock, IsUnended}
use Rattle.http_wire.specs.Received.{held_bytes, read_count, IsReadFault}
use Rattle.http_messages.proofs.BlockLemmas.{HasNoEndUpTo-zero}
use Rattle.http_wire.proofs.ReceivedLemmas.{Receives-join, Receives-nil, no_answer, one_answer}
use Rattle.http_wire.proofs.received.Received.read_block.Goals as goal

pub loop-block-init : goal.loop-block-init
loop-block-init g c = record {
  searched = HasNoEndUpTo-zero (from_block (held_bytes c.args.self.now));
  reads = Receives-nil _ _;
  fine = refl;
}

pub returns-then-ne : goal.returns-then-ne
returns-then-ne g c =
    let before = c.loop-block.invariant in
    record {
      reads = record {
        receives = before.reads;
        fine = before.fine;
        fault = tt;
      };
      block = subst (λ bytes. IsBlock bytes c.find_block_from-block.result) c.bytes.ensures.value
          c.find_block_from-block.ensures;
      end = λ more. absurd (false≢true (sym (rw (one_answer refl more) at c.if-ne.ensures)));
      unended = tt;
    }

pub returns-in_err-read_more : goal.returns-in_err-read_more
returns-in_err-read_more g c =
    let new = c.read_more.new.self in
    let before = c.loop-block.invariant in
    let unended : IsUnended (held_bytes c.loop-block.self) = search rules in
    let gives = err_from_is_err_and c.from_residual.result c.from_residual.ensures.1 in
    record {
      reads = record {
        receives =
            Receives-join _ _ _ _ _ _ before.reads c.read_more.ensures.reads.receives;
        fine = rw gives.1 tt;
        fault = rw gives.1 (subst₂ (λ count fault. IsReadFault count (g.R.Source.read_failures c.read_more.new.reader)
            (read_count new) fault) before.fine (sym gives.2) c.in_err-read_more.ensures.reads.fault);
      };
      block = rw gives.1 tt;
      end = λ same. absurd (no_answer gives.1 same);
      unended = rw gives.1 (subst IsUnended (sym c.in_err-read_more.ensures.same) unended);
    }

pub returns-then-not-branch : goal.returns-then-not-branch
returns-then-not-branch g c =
    let before = c.loop-block.invariant in
    let unended : IsUnended (held_bytes c.loop-block.self) = search rules in
    let ended = c.read_more.ensures.end (c.in_ok-read_more.was ∙ ap Ok c.if-not-branch.true) in
    record {
      reads = record {
        receives =
            Receives-join _ _ _ _ _ _ before.reads
            c.read_more.ensures.reads.receives;
        fine = c.in_ok-read_more.ensures.reads.fine ∙ before.fine;
        fault = tt;
      };
      block = subst IsUnended (sym ended.0) unended;
      end = λ _. ended.1;
      unended = tt;
    }

pub loop-block-preserved : goal.loop-block-preserved
loop-block-preserved g c =
    let here = c.loop-block.self in
    let before = c.loop-block.invariant in
    let searched =
    subst (λ bytes. (more : List ℕ) → HasNoEndUpTo (from_block (bytes ++ more)) c.searched_len-searched.result)
    c.bytes-in-loop-block.ensures.value c.searched_len-searched.ensures.unended in
    let unended : IsUnended (held_bytes here) = search rules in
    record {
      searched =
          subst (λ bytes. HasNoEndUpTo (from_block bytes) c.searched_len-searched.result)
          (sym c.read_more.ensures.reads.receives.bytes)
          (searched (drop (length (held_bytes here)) (held_bytes c.read_more.new.self)));
      reads = Receives-join _ _ _ _ _ _ before.reads
          c.read_more.ensures.reads.receives;
      fine = c.in_ok-read_more.ensures.reads.fine ∙ before.fine;
    }
