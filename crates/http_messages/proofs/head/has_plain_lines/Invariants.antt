use Rattle.std.proofs.Common.{◌≡◌, ℕ, ◌-◌, ◌<◌, length, slice_index}
use Rattle.http_messages.specs.Head.{FollowsCr}
use Rattle.http_messages.proofs.head.has_plain_lines.Given as goal

abbrev pub invariant-feeds : goal.invariant-feeds
invariant-feeds l = (k : ℕ) → k < l.from → slice_index l.block k ≡ 10 → FollowsCr l.block k

abbrev pub decreases-feeds : goal.decreases-feeds
decreases-feeds l = length l.block - l.from
