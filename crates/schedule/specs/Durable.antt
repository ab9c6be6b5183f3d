-- What a file in memory has.
use Rattle.std.specs.Prelude.{ℕ, List}
use Rattle.schedule.specs.declared.ends.durable.Durable.{Durable}

-- the bytes that it shows
abbrev pub bytes_of : Durable → List ℕ
bytes_of d = d.bytes.items
