-- What went out of a text whose writing failed.
use Rattle.std.specs.Prelude.{◌≡◌, ℕ, ◌≤◌, List, [], length, take}
use Rattle.std.specs.Io.KnownBytes.{Appends}
use Rattle.http_messages.specs.declared.refusal.ConnFault.{ConnFault}
use Rattle.http_wire.specs.declared.device.Sink.{Ghosts as Writes}
use Rattle.http_messages.specs.declared.refusal.ConnFault.TheVariants.{Read, Write, ReadLimit, Memory}
use Rattle.http_wire.specs.Device.{HasFailed}

-- Of a text: the first `sent` bytes, if the writer failed; nothing, if it didn't and there was no memory.
abbrev pub IsWriteFault : {W : Type 0} → Writes W → W → W → List ℕ → ConnFault → Type 0
IsWriteFault w before after text Read = ⊥
IsWriteFault w before after text (Write sent) =
    HasFailed (w.write_failures before) (w.write_failures after) × (sent ≤ length text)
    × Appends (w.written before) (w.written after) (take sent text)
IsWriteFault w before after text ReadLimit = ⊥
IsWriteFault w before after text Memory =
    (w.write_failures after ≡ w.write_failures before) × Appends (w.written before) (w.written after) []
