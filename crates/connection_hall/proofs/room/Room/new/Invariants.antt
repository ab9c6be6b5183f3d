use Rattle.std.proofs.Common.{◌≡◌, ◌-◌, ◌≤◌, vec_len, vec_capacity}
use Rattle.connection_hall.proofs.room.Room.new.Given as goal

abbrev pub invariant-loop-bytes : goal.invariant-loop-bytes
invariant-loop-bytes l = record { within : vec_len l.bytes ≤ 16384; memory : vec_capacity l.bytes ≡ 16384 }

abbrev pub decreases-loop-bytes : goal.decreases-loop-bytes
decreases-loop-bytes l = 16384 - vec_len l.bytes
