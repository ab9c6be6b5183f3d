-- The database's refusals to open as the programs name them.
use Rattle.std.specs.Prelude.{Bool, true, false}
use Rattle.sqlite.specs.declared.error.Error.{Error}
use Rattle.sqlite.specs.declared.error.Error.TheVariants.{SqliteFailure}
use Rattle.sqlite.specs.declared.error.ErrorCode.TheVariants as code
use Rattle.command_line.specs.declared.fault.DatabaseFault.{DatabaseFault}
use Rattle.command_line.specs.declared.fault.DatabaseFault.TheVariants.{Missing, Empty, NotADatabase, Damaged, Busy}
use Rattle.command_line.specs.declared.fault.DatabaseFault.TheVariants.{Memory, Full, Disk}

abbrev pub database_fault : Error → DatabaseFault
database_fault (SqliteFailure code.NotADatabase) = NotADatabase
database_fault (SqliteFailure code.DatabaseCorrupt) = Damaged
database_fault (SqliteFailure code.DatabaseBusy) = Busy
database_fault (SqliteFailure code.OutOfMemory) = Memory
database_fault (SqliteFailure code.DiskFull) = Full
database_fault _ = Disk

-- there is no file, or one without bytes
abbrev pub is_absence : DatabaseFault → Bool
is_absence Missing = true
is_absence Empty = true
is_absence _ = false
