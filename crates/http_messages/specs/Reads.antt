-- How often a connection is read.
use Rattle.std.specs.Prelude.{ℕ}

-- own rule: the most reads of a connection that give bytes
abbrev pub max_reads : ℕ
max_reads = 4194304
