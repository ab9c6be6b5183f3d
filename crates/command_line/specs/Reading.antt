-- What reading up to a length does, and why it fails. Own rules, over those of a reader. The first arguments are what
-- contracts see of the reader: the bytes that it has left, and how many of its reads have failed.
use Rattle.std.specs.Prelude.{◌≡◌, ℕ, zero, suc, ◌+◌, ◌<◌, ◌≤◌, List, length, Option}
use Rattle.std.specs.Io.KnownBytes.{Consumes, IsAtEnd}
use Rattle.http_messages.specs.Reads.{max_reads}
use Rattle.http_wire.specs.Device.{HasFailed}
use Rattle.command_line.specs.declared.bytes.ReadFault.{ReadFault}
use Rattle.command_line.specs.declared.bytes.ReadFault.TheVariants.{Open, Read, ReadLimit, TooLarge, Memory}

-- a read that did not fail gave one byte at least, and no more than is asked for at a time
pub record GivesBytes {R : Type 0} (left : R → Option (List ℕ)) (failures : R → ℕ) (before after : R) : Type 0 where
  pub bytes : List ℕ
  pub given : Consumes (left before) (left after) bytes
  pub some : 1 ≤ length bytes
  pub few : length bytes ≤ 16384
  pub fine : failures after ≡ failures before

-- this many reads, each of which gave bytes, one after another, and no others
unfoldable pub ReadsGive : {R : Type 0} → (R → Option (List ℕ)) → (R → ℕ) → ℕ → R → R → Type 0
ReadsGive left failures zero before after = after ≡ before
ReadsGive {R} left failures (suc count) before after =
    (between : R) × ReadsGive left failures count before between × GivesBytes left failures between after

-- all reads were made, and what they gave is less than what is wanted
pub record IsReadTooOften {R : Type 0} (left : R → Option (List ℕ)) (failures : R
    → ℕ) (wanted : ℕ) (before after : R) : Type 0 where
  pub reads : ReadsGive left failures max_reads before after
  pub fine : failures after ≡ failures before
  pub bytes : List ℕ
  pub given : Consumes (left before) (left after) bytes
  pub many : max_reads ≤ length bytes
  pub fewer : length bytes < wanted

-- why less was read than is wanted: a read failed; or none failed, and all reads were made, or memory ran out
abbrev pub IsReadFailure : {R : Type 0} → (R → Option (List ℕ)) → (R → ℕ) → ℕ → R → R → ReadFault → Type 0
IsReadFailure left failures wanted before after (Open error) = ⊥
IsReadFailure left failures wanted before after Read = HasFailed (failures before) (failures after)
IsReadFailure left failures wanted before after ReadLimit = IsReadTooOften left failures wanted before after
IsReadFailure left failures wanted before after TooLarge = ⊥
IsReadFailure left failures wanted before after Memory = failures after ≡ failures before

-- why one more read gave nothing; it is not made if as many were made as there may be
abbrev pub IsNoRead : {R : Type 0} → (R → ℕ) → ℕ → R → R → ReadFault → Type 0
IsNoRead failures made before after (Open error) = ⊥
IsNoRead failures made before after Read = HasFailed (failures before) (failures after)
IsNoRead failures made before after ReadLimit = (made ≡ max_reads) × (after ≡ before)
IsNoRead failures made before after TooLarge = ⊥
IsNoRead failures made before after Memory = failures after ≡ failures before

-- these are all the bytes that were left, and at most this many
pub record IsWhole (before after : Option (List ℕ)) (most : ℕ) (bytes : List ℕ) : Type 0 where
  pub given : Consumes before after bytes
  pub end : IsAtEnd after
  pub bound : length bytes ≤ most

-- more than this many bytes were left
pub record IsLonger (before after : Option (List ℕ)) (most : ℕ) : Type 0 where
  pub bytes : List ℕ
  pub given : Consumes before after bytes
  pub longer : most < length bytes

-- why an input that may have this many bytes is not read whole: it has more, and no read failed; or reading failed
-- before one byte more than that was read
abbrev pub IsNotWhole : {R : Type 0} → (R → Option (List ℕ)) → (R → ℕ) → ℕ → R → R → ReadFault → Type 0
IsNotWhole left failures most before after TooLarge =
    IsLonger (left before) (left after) most × (failures after ≡ failures before)
IsNotWhole left failures most before after why = IsReadFailure left failures (most + 1) before after why
