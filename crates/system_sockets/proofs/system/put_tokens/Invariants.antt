use Rattle.std.proofs.Common.{◌≡◌, take, vec_len, vec_capacity}
use Rattle.system_sockets.specs.Seen.{tokens_in}
use Rattle.system_sockets.proofs.system.put_tokens.Given as goal

abbrev pub invariant-loop-event : goal.invariant-loop-event
invariant-loop-event l =
    (l.named.items ≡ tokens_in (take l.event-index l.events))
    × (vec_len l.named ≡ l.event-index)
    × (vec_capacity l.named ≡ vec_capacity l.fn.named)
