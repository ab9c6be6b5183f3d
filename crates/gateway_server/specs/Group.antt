-- What several requests get that are decided together; own rules.
use Rattle.std.specs.Prelude.{◌≡◌, ℕ, Bool, List, [], ◌∷◌}
use Rattle.std.specs.List.{AllZip, zip}
use Rattle.sqlite.specs.Store.{Ghosts}
use Rattle.filing_model.specs.Request.{Request}
use Rattle.filing_model.specs.Text.{FileReport}
use Rattle.intake_core.specs.declared.intake.Intake.{Intake}
use Rattle.intake_core.specs.Group.{DecidesEachIf, Given}
use Rattle.intake_core.specs.Looked.{AreNewIf, WasOpen}
use Rattle.intake_core.specs.Moments.{DatesEachIf}
use Rattle.gateway_server.specs.Decided.{Decides, IsOfGiven}
use Rattle.gateway_server.specs.declared.decide.Decided.{Decided}

-- each of these requests gets what it gets after those before it
abbrev pub DecideInTurn : ℕ → List Request → List Request → List Request → List Request → List Decided → Type 0
DecideInTurn limit old_style before after [] [] = after ≡ before
DecideInTurn limit old_style before after [] (d ∷ ds) = ⊥
DecideInTurn limit old_style before after (r ∷ rs) [] = ⊥
DecideInTurn limit old_style before after (r ∷ rs) (d ∷ ds) =
    (between : List Request) × Decides limit old_style before between (FileReport r) d
    × DecideInTurn limit old_style between after rs ds

-- The intake gave each of these requests something, as `submit_all` does at these moments, and these are the marks and
-- the replies for that. So it is known what a stop leaves of them, and when each came that is kept. If they were found
-- to be new, what is said of rows holds if each is new to what was held, and what is said of a stop, if the register
-- was open too.
pub record AreSubmitted {S : Type 0} (g : Ghosts S) (are_new : Bool) (requests : List Request) (ms : List ℕ)
    (old new : Intake S) (all : List Decided) : Type 0 where
  pub given : List Given
  pub are : AllZip IsOfGiven given all
  pub decides : DecidesEachIf g (WasOpen g are_new old) (AreNewIf are_new requests) (zip requests given) old new
  pub dates : DatesEachIf g (WasOpen g are_new old) (AreNewIf are_new requests) (zip requests given) ms old new
