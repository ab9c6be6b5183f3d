-- What is shared by all connections; own rules.
use Rattle.std.specs.Prelude.{ℕ, ◌+◌, ◌/◌, max}
use Rattle.http_connection.specs.Connection.{max_request_len}

-- how many connections at most may hold a whole request and one read, for so many bytes that all may hold and owe
abbrev pub most_lent : ℕ → ℕ
most_lent memory = max (memory / 2 / (max_request_len + 16384)) 1
