-- What each task of `intake` does to the file of its register.
use Rattle.database_places.specs.declared.access.Access.{Access}
use Rattle.database_places.specs.declared.access.Access.TheVariants.{Writes}
use Rattle.intake_process.specs.Errands.{meaning}
use Rattle.intake_commands.specs.declared.options.Task.{Task}
use Rattle.intake_commands.specs.declared.options.Task.TheVariants as task

abbrev pub access_of : Task → Access
access_of (task.Visit database errand) = (meaning errand).access
access_of other = Writes
