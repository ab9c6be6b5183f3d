-- How the file of a database is opened.
use Rattle.std.specs.Prelude.{◌⊎◌}
use Rattle.database_places.specs.declared.access.Access.{Access}
use Rattle.database_places.specs.declared.access.Access.TheVariants.{Reads, CopiesLog, Writes}

-- what holds of a task that does this to the file: one thing if the file is opened for writing, and another if it is
-- opened for reading alone
abbrev pub OpensBy : Access → Type 0 → Type 0 → Type 0
OpensBy Reads written read = read
OpensBy CopiesLog written read = written ⊎ read
OpensBy Writes written read = written
