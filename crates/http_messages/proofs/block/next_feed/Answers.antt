use Rattle.std.proofs.Common.{◌≡◌, ◌-◌, length, take, drop, subst, arith}
use Rattle.std.proofs.lemmas.Grind.{common_steps}
use Rattle.memchr.specs.Find.{Nowhere, NoneBefore, Passes, is_byte}
use Rattle.http_messages.proofs.FeedLemmas.{next_feed_none, next_feed_some}
use Rattle.http_messages.proofs.block.next_feed.Goals as goal

pub returns-in-Some : goal.returns-in-Some
returns-in-Some c =
    let text = c.args.text.now in
    let from = c.args.from in
    let rest : take (length text - from) (drop from text) ≡ drop from text = grind (arith, common_steps) in
    next_feed_some text from c.in-Some.at
    (subst (λ hay. NoneBefore (Passes (is_byte 10) hay) 0 (length hay) c.in-Some.at
    × Passes (is_byte 10) hay c.in-Some.at) rest c.in-Some.ensures)

pub returns-in-None : goal.returns-in-None
returns-in-None c =
    let text = c.args.text.now in
    let from = c.args.from in
    let rest : take (length text - from) (drop from text) ≡ drop from text = grind (arith, common_steps) in
    next_feed_none text from (subst (λ hay. Nowhere (Passes (is_byte 10) hay) 0 (length hay)) rest c.in-None.ensures)
