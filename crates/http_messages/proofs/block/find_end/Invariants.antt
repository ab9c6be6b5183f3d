use Rattle.std.proofs.Common.{◌-◌, ◌≤◌, length}
use Rattle.http_messages.specs.Block.{HasNoEndUpTo}
use Rattle.http_messages.proofs.block.find_end.Given as goal

abbrev pub invariant-feeds : goal.invariant-feeds
invariant-feeds l = record { unended : HasNoEndUpTo l.text l.from; some : 3 ≤ l.from }

abbrev pub decreases-feeds : goal.decreases-feeds
decreases-feeds l = length l.text - l.from
