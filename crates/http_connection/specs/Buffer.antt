-- What contracts see of a buffer.
use Rattle.std.specs.Prelude.{ℕ, ◌-◌, List, slice_range, vec_capacity, vec_len}
use Rattle.http_connection.specs.declared.buffer.Buffer.{Buffer}

-- the bytes that came and were not dropped
abbrev pub buffered : Buffer → List ℕ
buffered b = slice_range b.room.items b.start b.end

-- how many bytes there is memory for
abbrev pub memory : Buffer → ℕ
memory b = vec_capacity b.room

-- for how many more bytes there is room behind them
abbrev pub spare : Buffer → ℕ
spare b = vec_len b.room - b.end
