-- What the calls that read a reply do to the bytes that are held.
use Rattle.std.specs.Prelude.{◌≡◌, ℕ, ◌+◌, ◌<◌, ◌≤◌, List, [], ◌++◌, length, Option}
use Rattle.std.specs.Io.KnownBytes.{Consumes, IsAtEnd}
use Rattle.http_wire.specs.declared.received.Received.{Received}
use Rattle.http_messages.specs.declared.refusal.ReplyFault.{ReplyFault}
use Rattle.http_messages.specs.declared.refusal.ReplyFault.TheVariants.{Cut, Malformed, NoLength, TooLarge, Read}
use Rattle.http_messages.specs.declared.refusal.ReplyFault.TheVariants.{ReadLimit, Memory}
use Rattle.http_messages.specs.declared.response.ResponseHead.{ResponseHead}
use Rattle.http_messages.specs.Block.{IsUnended, IsTooLong}
use Rattle.http_wire.specs.Device.{HasFailed}
use Rattle.http_wire.specs.Received.{held_bytes, read_count}
use Rattle.http_messages.specs.Reads.{max_reads}
use Rattle.http_messages.specs.ReplyFaults.{BeginsBadHead}
use Rattle.http_messages.specs.Response.{ResponseParts, BeginsResponseHead}
use Rattle.http_messages.specs.ResponseBlock.{ShowsParts}

-- These bytes were taken off the front of what was held and what the reader gave since.
pub record Takes (before after : Option (List ℕ)) (old new : Received) (taken : List ℕ) : Type 0 where
  pub read : List ℕ
  pub given : Consumes before after read
  pub bytes : held_bytes old ++ read ≡ taken ++ held_bytes new
  pub count : read_count new ≤ read_count old + length read

-- A head was taken.
pub record TakesHead (before after : Option (List ℕ)) (old new : Received) (head : ResponseHead) : Type 0 where
  pub block : List ℕ
  pub takes : Takes before after old new block
  pub parts : ResponseParts
  pub begins : BeginsResponseHead (block ++ held_bytes new) parts (length block)
  pub shows : ShowsParts head parts

-- why no head was taken, by the reader's failures before and after
abbrev pub IsHeadFailure : Option (List ℕ) → Option (List ℕ) → ℕ → ℕ → Received → Received → ReplyFault → Type 0
IsHeadFailure before after failures failures' old new Cut =
    (failures' ≡ failures) × Takes before after old new [] × IsUnended (held_bytes new) × IsAtEnd after
IsHeadFailure before after failures failures' old new Malformed =
    (failures' ≡ failures) × Takes before after old new [] × BeginsBadHead (held_bytes new)
IsHeadFailure before after failures failures' old new NoLength = ⊥
IsHeadFailure before after failures failures' old new TooLarge =
    (failures' ≡ failures) × Takes before after old new [] × IsTooLong (held_bytes new)
IsHeadFailure before after failures failures' old new Read = HasFailed failures failures'
IsHeadFailure before after failures failures' old new ReadLimit =
    (failures' ≡ failures) × Takes before after old new [] × IsUnended (held_bytes new) × (read_count new ≡ max_reads)
IsHeadFailure before after failures failures' old new Memory = (failures' ≡ failures) × (read_count new < max_reads)

-- less than the content was taken
abbrev pub TakesLess : Option (List ℕ) → Option (List ℕ) → Received → Received → ℕ → Type 0
TakesLess before after old new len =
    (part : List ℕ) × Takes before after old new part × (held_bytes new ≡ []) × (length part < len)

-- why no content was taken, by the reader's failures before and after
abbrev pub IsContentFailure : Option (List ℕ) → Option (List ℕ) → ℕ → ℕ → Received → Received → ℕ → ReplyFault → Type 0
IsContentFailure before after failures failures' old new len Cut =
    (failures' ≡ failures) × TakesLess before after old new len × IsAtEnd after
IsContentFailure before after failures failures' old new len Malformed = ⊥
IsContentFailure before after failures failures' old new len NoLength = ⊥
IsContentFailure before after failures failures' old new len TooLarge = ⊥
IsContentFailure before after failures failures' old new len Read = HasFailed failures failures'
IsContentFailure before after failures failures' old new len ReadLimit =
    (failures' ≡ failures) × TakesLess before after old new len × (read_count new ≡ max_reads)
IsContentFailure before after failures failures' old new len Memory = failures' ≡ failures
