-- What contracts see of the reader and the writer of a connection.
use Rattle.std.specs.Prelude.{◌≡◌, ℕ, List, Option}
use Rattle.http_wire.specs.declared.device.Source.{Ghosts as Reads}
use Rattle.http_wire.specs.declared.device.Sink.{Ghosts as Writes}
use Rattle.http_wire.specs.Device.{HasFailed}

-- What the reader has left and what the writer has written, if they are known, and how many calls of each have failed.
pub record Wire : Type 0 where
  pub left : Option (List ℕ)
  pub written : Option (List ℕ)
  pub read_failures : ℕ
  pub write_failures : ℕ

abbrev pub wire : {R W : Type 0} → Reads R → Writes W → R → W → Wire
wire r w reader writer = record {
  left = r.left reader;
  written = w.written writer;
  read_failures = r.read_failures reader;
  write_failures = w.write_failures writer;
}

-- between the two the reader failed, and the writer didn't
abbrev pub ReaderFailed : Wire → Wire → Type 0
ReaderFailed before after =
    HasFailed before.read_failures after.read_failures × (after.write_failures ≡ before.write_failures)

-- the writer failed, and the reader didn't
abbrev pub WriterFailed : Wire → Wire → Type 0
WriterFailed before after =
    (after.read_failures ≡ before.read_failures) × HasFailed before.write_failures after.write_failures

-- neither failed
abbrev pub NoneFailed : Wire → Wire → Type 0
NoneFailed before after = (after.read_failures ≡ before.read_failures) × (after.write_failures ≡ before.write_failures)
