-- The verdict on a database that a command expects to be a register or an outbox, and that cannot be used as one.
use Rattle.std.specs.Prelude.{◌≡◌, ℕ, Bool, true, false, List, ◌++◌, codes, Option, Some, None}
use Rattle.std.specs.Fmt.{decimal}
use Rattle.command_line.specs.declared.fault.DatabaseFault.{DatabaseFault}
use Rattle.command_line.specs.declared.fault.DatabaseFault.TheVariants.{Missing, Empty, NotADatabase, Foreign}
use Rattle.command_line.specs.declared.fault.DatabaseFault.TheVariants.{AutoVacuum, Damaged, Unsummed}
use Rattle.database_places.specs.declared.flaw.DatabaseFlaw.{DatabaseFlaw}
use Rattle.database_places.specs.declared.flaw.DatabaseFlaw.TheVariants as verdict

-- the verdict on a file that was not opened for this cause, if the cause gives one: wrong pages are damage at row 0
abbrev pub verdict_of : DatabaseFault → Option DatabaseFlaw
verdict_of Missing = Some verdict.NotOurs
verdict_of Empty = Some verdict.NotOurs
verdict_of NotADatabase = Some verdict.NotOurs
verdict_of Foreign = Some verdict.NotOurs
verdict_of (AutoVacuum restore) = Some verdict.NotOurs
verdict_of Damaged = Some (verdict.Damaged 0)
verdict_of (Unsummed restore) = Some (verdict.Damaged 0)
verdict_of _ = None

-- the line of a verdict on a database that is expected to be this thing
abbrev pub verdict_text : DatabaseFlaw → List ℕ → List ℕ
verdict_text verdict.NotOurs thing = codes "not " ++ thing ++ codes "\n"
verdict_text (verdict.Damaged row) thing = codes "damaged at row " ++ decimal row ++ codes "\n"

-- whether the fault of an opening depends on the pages of the file
abbrev pub goes_by_pages : DatabaseFault → Bool
goes_by_pages NotADatabase = true
goes_by_pages Foreign = true
goes_by_pages (AutoVacuum restore) = true
goes_by_pages Damaged = true
goes_by_pages (Unsummed restore) = true
goes_by_pages _ = false

-- this fault is reported instead of that of an opening: another that depends on the pages, if that did, and otherwise
-- the same
pub record IsRefusalOf (fault told : DatabaseFault) : Type 0 where
  pub pages : goes_by_pages told ≡ goes_by_pages fault
  pub others : goes_by_pages fault ≡ false → told ≡ fault
