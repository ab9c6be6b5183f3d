-- What a call at the bytes of a connection writes, and why it fails.
use Rattle.std.specs.Prelude.{◌≡◌, ◌⊎◌, ℕ, ◌≤◌, Bool, true, List, [], length, take, Option, if◌then◌else◌}
use Rattle.std.specs.Io.KnownBytes.{Appends}
use Rattle.http_messages.specs.declared.refusal.ConnFault.{ConnFault}
use Rattle.http_messages.specs.declared.refusal.ConnFault.TheVariants.{Read, Write, ReadLimit, Memory}
use Rattle.http_messages.specs.declared.refusal.Refusal.{Refusal}
use Rattle.http_messages.specs.Block.{HoldsBlock}
use Rattle.http_messages.specs.Message.{BeginsRequest, IsRefused, Asks, IsInterimFor, interim}
use Rattle.http_messages.specs.Reads.{max_reads}
use Rattle.http_messages.specs.Request.{Request}
use Rattle.http_wire.specs.declared.device.Sink.{Ghosts as Writes}
use Rattle.http_wire.specs.Device.{HasFailed}
use Rattle.http_wire.specs.Wire.{Wire, ReaderFailed, WriterFailed, NoneFailed}

-- the bytes begin with a request or a refusal
abbrev pub HoldsArrival : List ℕ → Type 0
HoldsArrival bytes =
    ((request : Request) × (n : ℕ) × BeginsRequest bytes request n) ⊎ ((refusal : Refusal) × IsRefused bytes refusal)

-- the interim response, if one is asked for
abbrev pub interim_if : Bool → List ℕ
interim_if asks = if asks then interim else []

-- the interim response was written, if the bytes ask for it, and nothing else
abbrev pub WritesAsked : Option (List ℕ) → Option (List ℕ) → List ℕ → Type 0
WritesAsked before after bytes = (text : List ℕ) × IsInterimFor bytes text × Appends before after text

-- What a call that failed had written. Memory may be wanted before the head is read, and then nothing was written.
abbrev pub WritesUpTo : Option (List ℕ) → Option (List ℕ) → List ℕ → ConnFault → Type 0
WritesUpTo before after bytes Read = WritesAsked before after bytes
WritesUpTo before after bytes (Write sent) =
    Asks bytes true × (sent ≤ length interim) × Appends before after (take sent interim)
WritesUpTo before after bytes ReadLimit = WritesAsked before after bytes
WritesUpTo before after bytes Memory = WritesAsked before after bytes ⊎ Appends before after []

-- Why a call failed, by the reader and the writer before and after, the reads that are counted, and the bytes that are
-- held: a read that was wanted failed, or a write did; or neither failed, and one more read was wanted after all reads
-- that may give bytes, or there was no memory. After all of these reads, memory is wanted only for the head of a block
-- that is held.
abbrev pub IsFault : Wire → Wire → ℕ → List ℕ → ConnFault → Type 0
IsFault before after reads held Read = ReaderFailed before after × ¬ (HoldsArrival held)
IsFault before after reads held (Write sent) = WriterFailed before after
IsFault before after reads held ReadLimit = NoneFailed before after × (reads ≡ max_reads) × ¬ (HoldsArrival held)
IsFault before after reads held Memory = NoneFailed before after × (reads ≡ max_reads → HoldsBlock held)

-- a write failed after a part of the interim response that was asked for
abbrev pub IsSendFault : {W : Type 0} → Writes W → W → W → Bool → ConnFault → Type 0
IsSendFault w before after asked Read = ⊥
IsSendFault w before after asked (Write sent) =
    (asked ≡ true) × HasFailed (w.write_failures before) (w.write_failures after) × (sent ≤ length interim)
    × Appends (w.written before) (w.written after) (take sent interim)
IsSendFault w before after asked ReadLimit = ⊥
IsSendFault w before after asked Memory = ⊥
