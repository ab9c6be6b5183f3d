-- What a look-up tells of a request, and of several that were found to be new.
use Rattle.std.specs.Prelude.{◌≡◌, Bool, List, true, false, IsTrue}
use Rattle.std.specs.List.{AllByRecursion}
use Rattle.sqlite.specs.Store.{Ghosts}
use Rattle.filing_model.specs.Request.{Request, has_key}
use Rattle.intake_core.specs.declared.intake.Intake.{Intake}
use Rattle.intake_core.specs.declared.intake.group.Looked.{Looked}
use Rattle.intake_core.specs.declared.intake.group.Looked.TheVariants.{New, Repeat, Unknown}
use Rattle.intake_core.specs.Answered.{IsAnswerTo}
use Rattle.intake_core.specs.Held.{old_style_in, shows}

-- What it tells, by the requests that are held. If the request is new, the register is open; a repeat gets its answer,
-- and the register is open if it was so before.
abbrev pub TellsWhether : {S : Type 0} → Ghosts S → List Request → Request → Intake S → Intake S → Looked → Type 0
TellsWhether g F r old new New = (has_key F r ≡ false) × IsTrue (shows g new).is_open
TellsWhether g F r old new (Repeat answer) =
    IsAnswerTo (old_style_in old F) F r answer × (has_key F r ≡ true)
    × (IsTrue (shows g old).is_open → IsTrue (shows g new).is_open)
TellsWhether g F r old new Unknown = Unit {0}

-- none of these requests has the filer and key of one that is held
abbrev pub AreNewTo : List Request → List Request → Type 0
AreNewTo F rs = AllByRecursion (λ r. has_key F r ≡ false) rs

-- none of them does, if they were found to be new
abbrev pub AreNewIf : Bool → List Request → List Request → Type 0
AreNewIf are_new rs F = are_new ≡ true → AreNewTo F rs

-- the register was open, if they were found to be new
abbrev pub WasOpen : {S : Type 0} → Ghosts S → Bool → Intake S → Type 0
WasOpen g are_new old = are_new ≡ true → IsTrue (shows g old).is_open
