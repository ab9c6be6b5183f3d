-- How much a connection holds.
use Rattle.std.proofs.Common.{◌≤◌, length}
use Rattle.http_connection.specs.Connection.{held, memory}
use Rattle.http_connection.specs.declared.connection.Connection.{Connection}

pub held-bound : (c : Connection) → length (held c) ≤ 1064962
held-bound c = c.bounded

pub memory-bound : (c : Connection) → memory c ≤ 1064962
memory-bound c = c.held.bounded
