use Rattle.std.proofs.Common.{◌+◌, ◌≤◌, arith, rules}
use Rattle.http_messages.specs.Block.{EndsAt, max_block_len}
use Rattle.http_messages.proofs.BlockLemmas.{EndsAt-within, find_end_before, find_end_more, find_end_none}
use Rattle.http_messages.proofs.block.find_end.Goals as goal

pub feeds-init : goal.feeds-init
feeds-init c = record {
  unended = λ k low ends.
      let within = EndsAt-within c.args.text.now k ends in
      c.requires k (omega (arith, within.0)) ends;
  some = omega arith;
}

pub returns-then-at-ge-MAX_BLOCK_LEN : goal.returns-then-at-ge-MAX_BLOCK_LEN
returns-then-at-ge-MAX_BLOCK_LEN c = λ k low ends.
    find_end_before c.args.text.now c.feeds.from c.in-Some.at c.feeds.invariant.unended c.in-Some.ensures k
    (omega arith) ends

pub overflow_sub-at : goal.overflow_sub-at
overflow_sub-at c = omega (arith, c.in-Some.ensures.low, c.feeds.invariant.some)

pub returns-then-eq : goal.returns-then-eq
returns-then-eq c = record {
  ends = search rules;
  first = λ k less ends. find_end_before c.args.text.now c.feeds.from c.in-Some.at c.feeds.invariant.unended
      c.in-Some.ensures k (omega arith) ends;
  short = omega arith;
}

pub feeds-preserved : goal.feeds-preserved
feeds-preserved c =
    let here : ¬ (EndsAt c.args.text.now (c.in-Some.at + 1)) = search rules in
    let low : 3 ≤ c.in-Some.at + 1 = omega (arith, c.in-Some.ensures.low, c.feeds.invariant.some) in
    record {
      unended = find_end_more c.args.text.now c.feeds.from c.in-Some.at c.feeds.invariant.unended
          c.in-Some.ensures here;
      some = low;
    }

pub returns : goal.returns
returns c = find_end_none c.args.text.now c.feeds.from max_block_len c.feeds.invariant.unended c.in_default.ensures
