-- The status of a program whose command is not done.
use Rattle.std.specs.Prelude.{◌≡◌, ◌≢◌, ◌⊎◌, ℕ}
use Rattle.clap.specs.declared.error.kind.ErrorKind.{ErrorKind}
use Rattle.clap.specs.declared.error.kind.ErrorKind.TheVariants as kind
use Rattle.command_line.specs.declared.bytes.ReadFault.{ReadFault}
use Rattle.command_line.specs.declared.bytes.ReadFault.TheVariants as read
use Rattle.command_line.specs.declared.fault.DatabaseFault.{DatabaseFault}
use Rattle.command_line.specs.declared.fault.DatabaseFault.TheVariants as database
use Rattle.command_line.specs.declared.fault.CommandFault.{CommandFault}
use Rattle.command_line.specs.declared.fault.CommandFault.TheVariants as command

-- 1 if the file is not there or is no sound database of the program's, and otherwise 3
abbrev pub database_status : DatabaseFault → ℕ
database_status database.Missing = 1
database_status database.Empty = 1
database_status database.NotADatabase = 1
database_status database.Foreign = 1
database_status (database.AutoVacuum _) = 1
database_status database.Damaged = 1
database_status (database.Unsummed _) = 1
database_status database.Busy = 3
database_status database.Memory = 3
database_status database.Denied = 3
database_status database.ReadOnly = 3
database_status database.Folder = 3
database_status database.NotAFile = 3
database_status database.Linked = 3
database_status database.Journal = 3
database_status database.NoFolder = 3
database_status database.Loop = 3
database_status database.LongName = 3
database_status database.Descriptors = 3
database_status database.Full = 3
database_status database.Disk = 3

-- 2 for a report that is too large, and otherwise 3
abbrev pub read_status : ReadFault → ℕ
read_status (read.Open error) = 3
read_status read.Read = 3
read_status read.ReadLimit = 3
read_status read.TooLarge = 2
read_status read.Memory = 3

-- 2 if the command line is at fault
abbrev pub status_of : CommandFault → ℕ
status_of command.NotText = 2
status_of command.NoTask = 2
status_of command.Filer = 2
status_of (command.Database _ fault) = database_status fault
status_of (command.Report _ fault) = read_status fault
status_of command.Output = 3
status_of command.Memory = 3

-- The status if `clap` does not take the words: 3 if memory ran out; 0 if they ask for help or the version, or 3 if the
-- output failed; and otherwise 2.
pub record IsRefusalStatus (why : ErrorKind) (status : ℕ) : Type 0 where
  pub memory : why ≡ kind.OutOfMemory → status ≡ 3
  pub asked : (why ≡ kind.DisplayHelp) ⊎ (why ≡ kind.DisplayVersion) → (status ≡ 0) ⊎ (status ≡ 3)
  pub wrong : why ≢ kind.OutOfMemory → why ≢ kind.DisplayHelp → why ≢ kind.DisplayVersion → status ≡ 2
