-- The database's refusals as the making, the opening and the migration of an outbox name them.
use Rattle.std.specs.Prelude.{◌≡◌, ◌≢◌, ◌⊎◌, ℕ}
use Rattle.sqlite.specs.declared.error.Error.{Error}
use Rattle.table_rows.specs.declared.cause.Cause.{Cause}
use Rattle.table_rows.specs.declared.cause.Cause.TheVariants as cause
use Rattle.table_rows.specs.Causes.{cause_of}
use Rattle.outbox_tables.specs.declared.fault.OutboxFault.{OutboxFault}
use Rattle.outbox_tables.specs.declared.fault.OutboxFault.TheVariants as outbox

abbrev pub outbox_fault_by : Cause → OutboxFault
outbox_fault_by cause.Memory = outbox.Memory
outbox_fault_by cause.Disk = outbox.Disk
outbox_fault_by cause.Other = outbox.Disk

-- an outbox that is made is neither looked for nor damaged
abbrev pub IsOfMaking : OutboxFault → Type 0
IsOfMaking fault = (fault ≢ outbox.NotOurs) × ((row : ℕ) → fault ≢ outbox.Damaged row)

-- an outbox that is opened has its filer, and takes no names
abbrev pub IsOfOpening : OutboxFault → Type 0
IsOfOpening fault = (fault ≢ outbox.BadFiler) × (fault ≢ outbox.Taken)

-- a refusal while an outbox is made or opened
abbrev pub outbox_fault : Error → OutboxFault
outbox_fault error = outbox_fault_by (cause_of error)

abbrev pub meta_fault_by : Cause → OutboxFault
meta_fault_by cause.Memory = outbox.Memory
meta_fault_by cause.Disk = outbox.Disk
meta_fault_by cause.Other = outbox.NotOurs

-- `outbox_meta` cannot be read
abbrev pub meta_fault : Error → OutboxFault
meta_fault error = meta_fault_by (cause_of error)

abbrev pub entry_fault_by : Cause → OutboxFault
entry_fault_by cause.Memory = outbox.Memory
entry_fault_by cause.Disk = outbox.Disk
entry_fault_by cause.Other = outbox.Damaged 0

-- `entry` or `target` cannot be read
abbrev pub entry_fault : Error → OutboxFault
entry_fault error = entry_fault_by (cause_of error)

-- memory or the disk failed
abbrev pub IsFailure : OutboxFault → Type 0
IsFailure fault = (fault ≡ outbox.Memory) ⊎ (fault ≡ outbox.Disk)

-- a row is damaged, or memory or the disk failed
abbrev pub IsDamageOrFailure : OutboxFault → Type 0
IsDamageOrFailure fault = ((row : ℕ) × (fault ≡ outbox.Damaged row)) ⊎ IsFailure fault
