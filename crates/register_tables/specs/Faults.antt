-- The database's refusals as a store names them.
use Rattle.std.specs.Prelude.{◌≡◌, ◌⊎◌}
use Rattle.sqlite.specs.declared.error.Error.{Error}
use Rattle.table_rows.specs.declared.cause.Cause.{Cause}
use Rattle.table_rows.specs.declared.cause.Cause.TheVariants as cause
use Rattle.table_rows.specs.Causes.{cause_of}
use Rattle.register_tables.specs.declared.fault.CreateFault.{CreateFault}
use Rattle.register_tables.specs.declared.fault.CreateFault.TheVariants as create
use Rattle.register_tables.specs.declared.fault.OpenFault.{OpenFault}
use Rattle.register_tables.specs.declared.fault.OpenFault.TheVariants as fault

abbrev pub create_fault_by : Cause → CreateFault
create_fault_by cause.Memory = create.Memory
create_fault_by cause.Disk = create.Disk
create_fault_by cause.Other = create.Disk

-- a refusal while the tables are made
abbrev pub create_fault : Error → CreateFault
create_fault error = create_fault_by (cause_of error)

abbrev pub meta_fault_by : Cause → OpenFault
meta_fault_by cause.Memory = fault.Memory
meta_fault_by cause.Disk = fault.Disk
meta_fault_by cause.Other = fault.NotOurs

-- `intake_meta` cannot be read
abbrev pub meta_fault : Error → OpenFault
meta_fault error = meta_fault_by (cause_of error)

abbrev pub table_fault_by : Cause → OpenFault
table_fault_by cause.Memory = fault.Memory
table_fault_by cause.Disk = fault.Disk
table_fault_by cause.Other = fault.Damaged 0

-- another table cannot be read
abbrev pub table_fault : Error → OpenFault
table_fault error = table_fault_by (cause_of error)

-- memory or the disk failed, which says nothing of the rows
abbrev pub IsFailure : OpenFault → Type 0
IsFailure why = (why ≡ fault.Memory) ⊎ (why ≡ fault.Disk)
