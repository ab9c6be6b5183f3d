-- What reads do to the bytes that are held.
use Rattle.std.specs.Prelude.{◌≡◌, ℕ, ◌+◌, ◌<◌, ◌≤◌, List, ◌++◌, length, drop, Option, Result, IfErr, OnOk}
use Rattle.std.specs.Io.KnownBytes.{Consumes}
use Rattle.http_wire.specs.declared.device.Source.{Ghosts as Reads}
use Rattle.http_wire.specs.declared.received.Received.{Received}
use Rattle.http_messages.specs.declared.refusal.ConnFault.{ConnFault}
use Rattle.http_messages.specs.declared.refusal.ConnFault.TheVariants.{Read, Write, ReadLimit, Memory}
use Rattle.http_connection.specs.Buffer.{buffered}
use Rattle.http_wire.specs.Device.{HasFailed}
use Rattle.http_messages.specs.Reads.{max_reads}

-- bytes that are held, and how many reads are counted, each of which gave a byte at least
pub record Held : Type 0 where
  pub bytes : List ℕ
  pub reads : ℕ

-- the bytes of a reply that are held
abbrev pub held_bytes : Received → List ℕ
held_bytes r = buffered r.bytes

abbrev pub read_count : Received → ℕ
read_count r = r.reads

abbrev pub received : Received → Held
received r = record { bytes = held_bytes r; reads = read_count r }

-- What is held now is what was held, and what the reader gave since: at least a byte in each read that is counted, and
-- nothing if none is.
pub record Receives (before after : Option (List ℕ)) (old new : Held) : Type 0 where
  pub bytes : new.bytes ≡ old.bytes ++ drop (length old.bytes) new.bytes
  pub given : Consumes before after (drop (length old.bytes) new.bytes)
  pub reads : old.reads ≤ new.reads
  pub each : new.reads ≤ old.reads + length (drop (length old.bytes) new.bytes)
  pub idle : new.reads ≡ old.reads → new.bytes ≡ old.bytes

-- nothing was read
pub record ReceivesNothing {R : Type 0} (before after : R) (old new : Held) : Type 0 where
  pub reader : after ≡ before
  pub bytes : new.bytes ≡ old.bytes
  pub reads : new.reads ≡ old.reads

-- Why a read gave nothing, by the reader's failures before and after: the reader failed; or it didn't, and all reads
-- were made that may give bytes, or there was no memory for one more.
abbrev pub IsReadFault : ℕ → ℕ → ℕ → ConnFault → Type 0
IsReadFault failures failures' reads Read = HasFailed failures failures'
IsReadFault failures failures' reads (Write sent) = ⊥
IsReadFault failures failures' reads ReadLimit = (failures' ≡ failures) × (reads ≡ max_reads)
IsReadFault failures failures' reads Memory = (failures' ≡ failures) × (reads < max_reads)

-- What a call that reads does with a reader and the bytes that are held.
pub record ReadsFrom {R X : Type 0} (r : Reads R) (before after : R) (old new : Held)
    (result : Result X ConnFault) : Type 0 where
  pub receives : Receives (r.left before) (r.left after) old new
  -- the reader didn't fail if there is an answer, and otherwise this is why there is none
  pub fine : OnOk result (r.read_failures after ≡ r.read_failures before)
  pub fault : IfErr result (IsReadFault (r.read_failures before) (r.read_failures after) new.reads)
