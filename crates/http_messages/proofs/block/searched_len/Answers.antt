use Rattle.std.proofs.Common.{◌≡◌, ◌-◌, ◌≤◌, ◌++◌, length, subst, arith}
use Rattle.std.proofs.lemmas.Grind.{common_steps}
use Rattle.http_messages.specs.Block.{from_block, EndsAt, skipped_len}
use Rattle.http_messages.proofs.BlockLemmas.{HasNoEndUpTo-zero}
use Rattle.http_messages.proofs.MoreBytes.{from_block-more, EndsAt-front}
use Rattle.http_messages.proofs.block.searched_len.Goals as goal

pub returns-then-bytes-lt4-clause-unended : goal.returns-then-bytes-lt4-clause-unended
returns-then-bytes-lt4-clause-unended c = λ more. HasNoEndUpTo-zero (from_block (c.args.bytes.now ++ more))

pub returns-else-bytes-lt4-clause-unended : goal.returns-else-bytes-lt4-clause-unended
returns-else-bytes-lt4-clause-unended c = λ more k low ends.
    let bytes = c.args.bytes.now in
    let four : 4 ≤ length bytes = omega arith in
    let here = subst (λ text. EndsAt text k) (from_block-more bytes more four) ends in
    let size : length (from_block bytes) ≡ length bytes - skipped_len bytes = grind (arith, common_steps) in
    let within : k ≤ length (from_block bytes) = omega arith in
    c.requires.unended k (omega (arith, within, c.requires.room)) (EndsAt-front (from_block bytes) more k within here)
