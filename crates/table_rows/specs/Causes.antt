-- The causes of the refusals of `sqlite`, and how a call on the rows of a store reports them.
use Rattle.sqlite.specs.declared.error.Error.{Error}
use Rattle.sqlite.specs.declared.error.Error.TheVariants.{SqliteFailure}
use Rattle.sqlite.specs.declared.error.ErrorCode.TheVariants.{OutOfMemory, SystemIoFailure, DatabaseCorrupt, DiskFull}
use Rattle.sqlite.specs.declared.error.ErrorCode.TheVariants.{Closed}
use Rattle.table_rows.specs.declared.cause.Cause.{Cause}
use Rattle.table_rows.specs.declared.cause.Cause.TheVariants.{Memory, Disk, Other}
use Rattle.table_rows.specs.declared.fault.StoreFault.{StoreFault}
use Rattle.table_rows.specs.declared.fault.StoreFault.TheVariants as store

-- memory ran out, the disk failed, or the cause is another
abbrev pub cause_of : Error → Cause
cause_of (SqliteFailure OutOfMemory) = Memory
cause_of (SqliteFailure SystemIoFailure) = Disk
cause_of (SqliteFailure DatabaseCorrupt) = Disk
cause_of (SqliteFailure DiskFull) = Disk
cause_of (SqliteFailure Closed) = Disk
cause_of _ = Other

abbrev pub store_fault_by : Cause → StoreFault
store_fault_by Memory = store.Memory
store_fault_by Disk = store.Store
store_fault_by Other = store.Store

-- Memory if memory ran out, and Store for every other cause
abbrev pub store_fault : Error → StoreFault
store_fault error = store_fault_by (cause_of error)
