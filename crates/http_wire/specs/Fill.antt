-- Why a read gave nothing.
use Rattle.std.specs.Prelude.{ℕ}
use Rattle.http_messages.specs.declared.refusal.ConnFault.{ConnFault}
use Rattle.http_messages.specs.declared.refusal.ConnFault.TheVariants.{Read, Write, ReadLimit, Memory}
use Rattle.http_wire.specs.Device.{HasFailed}

-- the reader failed: its failures before and after
abbrev pub IsFillFault : ℕ → ℕ → ConnFault → Type 0
IsFillFault old new Read = HasFailed old new
IsFillFault old new (Write sent) = ⊥
IsFillFault old new ReadLimit = ⊥
IsFillFault old new Memory = ⊥
