use Rattle.std.proofs.Common.{◌≡◌, ◌-◌, ◌≤◌, vec_len, vec_capacity}
use Rattle.http_connection.proofs.buffer.zeros.Given as goal

abbrev pub invariant-loop-room : goal.invariant-loop-room
invariant-loop-room l = record {
  within : vec_len l.room ≤ l.len;
  memory : vec_capacity l.room ≡ l.len;
}

abbrev pub decreases-loop-room : goal.decreases-loop-room
decreases-loop-room l = l.len - vec_len l.room
