-- Which fault is reported of what went wrong with a register.
use Rattle.std.specs.Prelude.{◌≡◌, ℕ, List}
use Rattle.std.specs.Borrow.{Bor}
use Rattle.command_line.specs.declared.fault.CommandFault.TheVariants as command
use Rattle.command_line.specs.declared.fault.DatabaseFault.{DatabaseFault}
use Rattle.database_places.specs.Verdicts.{IsRefusalOf}
use Rattle.database_places.specs.declared.holding.Holding.{Holding}
use Rattle.register_extracts.specs.declared.fault.Why.{Why}
use Rattle.register_extracts.specs.declared.fault.Why.TheVariants as why
use Rattle.intake_commands.specs.declared.fault.NotDone.{NotDone}
use Rattle.intake_commands.specs.declared.fault.NotDone.TheVariants as fault
use Rattle.intake_commands.specs.declared.folder.PageFault.{PageFault}

-- the files with this name gave no database, and the fault says why, by their first page if the refusal depends on the
-- pages
abbrev pub IsDatabaseTold : Bor (List ℕ) → DatabaseFault → NotDone → Type 0
IsDatabaseTold name why told =
    (shown : DatabaseFault) × IsRefusalOf why shown × (told ≡ fault.Command (command.Database name shown))

-- what went wrong with the register in the file with this name, which holds this
abbrev pub IsTold : Bor (List ℕ) → Why → Holding → NotDone → Type 0
IsTold name (why.Files cause) holding told = IsDatabaseTold name cause told
IsTold name why.Memory holding told = told ≡ fault.Command command.Memory
IsTold name why.Output holding told = told ≡ fault.Command command.Output
IsTold name other holding told = told ≡ fault.Register name other holding

-- the same of an errand; if a folder failed, the folder says why
abbrev pub IsErrandTold : Bor (List ℕ) → Why → Holding → NotDone → Type 0
IsErrandTold name why.Folder holding told = (error : PageFault) × (told ≡ fault.Page error)
IsErrandTold name other holding told = IsTold name other holding told
