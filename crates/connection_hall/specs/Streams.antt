-- What a call of a stream came to; own rules.
use Rattle.std.specs.Prelude.{ℕ, Bool, true, false, Result, Ok, Err}
use Rattle.connection_hall.specs.declared.stream.Got.{Got}
use Rattle.connection_hall.specs.declared.stream.Got.TheVariants.{Bytes, Nothing, End}
use Rattle.connection_hall.specs.declared.stream.Broken.{Broken}

-- how many bytes a read gave
abbrev pub got_len : Got → ℕ
got_len (Bytes n) = n
got_len Nothing = 0
got_len End = 0

-- whether nothing was there to be read
abbrev pub gave_nothing : Got → Bool
gave_nothing (Bytes n) = false
gave_nothing Nothing = true
gave_nothing End = false

-- whether nothing comes any more
abbrev pub gave_end : Got → Bool
gave_end (Bytes n) = false
gave_end Nothing = false
gave_end End = true

-- how many bytes a write took
abbrev pub took_len : Result ℕ Broken → ℕ
took_len (Ok n) = n
took_len (Err broken) = 0
