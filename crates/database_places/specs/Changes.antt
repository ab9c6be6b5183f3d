-- What a file shows that was changed in memory.
use Rattle.std.specs.Prelude.{◌≡◌, ℕ, ◌+◌, ◌-◌, List, [], ◌∷◌, ◌++◌, length, take, drop, replicate}
use Rattle.database_places.specs.declared.reading.changes.Change.{Change}
use Rattle.database_places.specs.declared.reading.changes.Change.TheVariants.{Write, Cut}
use Rattle.database_places.specs.declared.reading.changes.Changes.{Changes}

-- the part of bytes written from `start` on that lies within `count` bytes from `at` on
abbrev pub part_of : ℕ → List ℕ → ℕ → ℕ → List ℕ
part_of start bytes at count = take (count - (start - at)) (drop (at - start) bytes)

-- bytes that begin at `at`, and over them those that were written from `start` on
abbrev pub written_over : ℕ → List ℕ → ℕ → List ℕ → List ℕ
written_over start bytes at under =
    let part = part_of start bytes at (length under) in
    take (start - at) under ++ part ++ drop (start - at + length part) under

-- bytes that begin at `at`, with 0 for each beyond this length of the file
abbrev pub zeroed_from : ℕ → ℕ → List ℕ → List ℕ
zeroed_from len at under = take (len - at) under ++ replicate (length under - (len - at)) 0

-- bytes that begin at `at`, after one change
abbrev pub laid : Change → ℕ → List ℕ → List ℕ
laid (Write start bytes) at under = written_over start bytes.items at under
laid (Cut len) at under = zeroed_from len at under

-- bytes that begin at `at`, after these changes, the oldest first
abbrev pub laid_over : List Change → ℕ → List ℕ → List ℕ
laid_over [] at under = under
laid_over (change ∷ later) at under = laid_over later at (laid change at under)

-- whatever the file itself has, this was done last to what it shows
abbrev pub IsAfter : Changes → Changes → (ℕ → List ℕ → List ℕ) → Type 0
IsAfter old new done =
    (at : ℕ) (under : List ℕ) → laid_over new.made.items at under ≡ done at (laid_over old.made.items at under)
