-- Which faults come of the writing of a register's pages.
use Rattle.register_extracts.specs.declared.fault.Why.{Why}
use Rattle.register_extracts.specs.declared.fault.Why.TheVariants as why
use Rattle.register_extracts.specs.Faults.{IsReadingWhy}
use Rattle.register_pages.specs.declared.fault.Missed.{Missed}
use Rattle.register_pages.specs.declared.fault.Missed.TheVariants as missed

-- why not all pages of a sound register are written, if a file was missed for this reason
abbrev pub missed_why : Missed → Why
missed_why missed.Memory = why.Memory
missed_why missed.Folder = why.Folder

-- the register was not read, no memory was left, or the folder failed
abbrev pub IsWritingWhy : Why → Type 0
IsWritingWhy why.Folder = Unit {0}
IsWritingWhy other = IsReadingWhy other
