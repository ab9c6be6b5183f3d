-- What each task of `outbox` does to the file of its outbox.
use Rattle.database_places.specs.declared.access.Access.{Access}
use Rattle.database_places.specs.declared.access.Access.TheVariants.{Reads, CopiesLog, Writes}
use Rattle.outbox_commands.specs.declared.options.Task.{Task}
use Rattle.outbox_commands.specs.declared.options.Task.TheVariants as task

-- the states are asked for, for which the log is copied into the file if both may be written
abbrev pub access_of : Task → Access
access_of (task.Status database) = CopiesLog
access_of (task.Show database entry) = Reads
access_of (task.Body database entry) = Reads
access_of (task.Ask database peer id form) = Reads
access_of other = Writes
