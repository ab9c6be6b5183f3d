-- What is kept of the rows of `entry` while they are gone through.
use Rattle.std.specs.Prelude.{ℕ, suc, if◌then◌else◌, List, [], ◌∷◌, length}
use Rattle.sqlite.specs.Order.{Row}
use Rattle.outbox_tables.specs.declared.opening.audit.Tally.{Tally}
use Rattle.outbox_tables.specs.Audit.{is_entry}

-- how many of the rows, from the first on, are those of entries, if the first of them has this id
abbrev pub sound_from : ℕ → List Row → ℕ
sound_from id [] = 0
sound_from id (row ∷ rows) = if is_entry id row then suc (sound_from (suc id) rows) else 0

-- how many rows there are, and how many of them, from the first on, are those of entries
abbrev pub tally_of : List Row → Tally
tally_of rows = record { count = length rows; sound = sound_from 1 rows }
