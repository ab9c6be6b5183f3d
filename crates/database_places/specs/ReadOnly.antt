-- What a file that is only read shows.
use Rattle.std.specs.Prelude.{◌≡◌, ◌≤◌, ℕ, ◌+◌, ◌-◌, max, List, [], ◌∷◌, length, drop, replicate}
use Rattle.sqlite_disk.specs.Events.{settled}
use Rattle.database_places.specs.declared.reading.read_only.ReadOnlyFile.{ReadOnlyFile}
use Rattle.database_places.specs.Changes.{laid_over, written_over, zeroed_from, IsAfter}

-- behind the first so many, each byte is 0
abbrev pub EndsInZeros : ℕ → List ℕ → Type 0
EndsInZeros first bytes = drop first bytes ≡ replicate (length bytes - first) 0

-- These bytes lie in it from `at` on: what the file itself has there, and 0 beyond its end, as it is after all changes.
abbrev pub Shows : ReadOnlyFile → ℕ → List ℕ → Type 0
Shows file at shown =
    (at + length shown ≤ file.len) × ((under : List ℕ) × (length under ≡ length shown)
    × EndsInZeros (file.file_len - at) under × (shown ≡ laid_over file.changes.made.items at under))

-- it shows what it showed
abbrev pub IsSame : ReadOnlyFile → ReadOnlyFile → Type 0
IsSame old new =
    (new.changes.made.items ≡ old.changes.made.items) × (new.file_len ≡ old.file_len) × (new.len ≡ old.len)

-- these bytes lie over what it showed, and it is longer if they go beyond its end
abbrev pub IsWritten : ℕ → List ℕ → ReadOnlyFile → ReadOnlyFile → Type 0
IsWritten at bytes old new =
    IsAfter old.changes new.changes (written_over at bytes) × (new.file_len ≡ old.file_len)
    × (new.len ≡ max old.len (at + length bytes))

-- it has this length, and what lay beyond is 0, if it becomes longer again
abbrev pub IsCut : ℕ → ReadOnlyFile → ReadOnlyFile → Type 0
IsCut len old new =
    IsAfter old.changes new.changes (zeroed_from len) × (new.file_len ≡ old.file_len) × (new.len ≡ len)

-- nothing was asked of it since it got this key
abbrev pub IsSettled : ℕ → ReadOnlyFile → Type 0
IsSettled key file = file.calls.events ≡ settled key ∷ []

-- nor was anything written over it
abbrev pub IsNew : ℕ → ReadOnlyFile → Type 0
IsNew key file = IsSettled key file × (file.changes.made.items ≡ []) × (file.len ≡ file.file_len)

-- it shows these bytes from the first on, whatever is under them
abbrev pub IsEmptyButFor : List ℕ → ℕ → ReadOnlyFile → Type 0
IsEmptyButFor bytes key file =
    IsSettled key file × (file.len ≡ length bytes) × ((at : ℕ) (under : List ℕ)
    → laid_over file.changes.made.items at under ≡ written_over 0 bytes at under)
