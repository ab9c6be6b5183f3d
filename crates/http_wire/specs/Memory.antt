-- What contracts see of bytes in memory that are read or written.
use Rattle.std.specs.Prelude.{ℕ, List}
use Rattle.http_wire.specs.declared.memory.MemoryReader.{MemoryReader}
use Rattle.http_wire.specs.declared.memory.MemoryWriter.{MemoryWriter}

-- what is left to be read
abbrev pub bytes_left : MemoryReader → List ℕ
bytes_left reader = reader.rest.now

-- what was written
abbrev pub bytes_written : MemoryWriter → List ℕ
bytes_written writer = writer.text.items

-- how often memory was refused
abbrev pub memory_refusals : MemoryWriter → ℕ
memory_refusals writer = writer.refused
