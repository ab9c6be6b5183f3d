use Rattle.std.proofs.Common.{◌≡◌, ◌-◌, length, take, drop, ap, ◌∙◌, subst, arith, rules}
use Rattle.std.proofs.lemmas.Grind.{common_steps}
use Rattle.http_messages.specs.Block.{IsBlockEnd, from_block}
use Rattle.http_messages.specs.Head.{IsHead}
use Rattle.http_messages.specs.Spans.{parts_at}
use Rattle.http_messages.proofs.head.read_head.Goals as goal

pub returns-in_ok-spans-in-End-clause-ok : goal.returns-in_ok-spans-in-End-clause-ok
returns-in_ok-spans-in-End-clause-ok c =
    let bytes = c.args.bytes.now in
    let skipped = c.skipped_len.result in
    let end : IsBlockEnd bytes c.in-End.end = rw c.in-End.is at c.find_block.ensures in
    let all : c.in-End.end ≡ length bytes = search rules in
    let rest = take (length bytes - skipped) (drop skipped bytes) in
    let whole : rest ≡ drop skipped bytes = grind (arith, common_steps) in
    let block : rest ≡ from_block bytes = whole ∙ ap (λ k. drop k bytes) c.skipped_len.ensures.value in
    let parts = parts_at rest c.in_ok-spans-in-End.spans in (
      subst (IsBlockEnd bytes) all end,
      rw c.at.ensures (subst (λ text. IsHead text parts) block c.in_ok-spans-in-End.ensures.ok),
    )
