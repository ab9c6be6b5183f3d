-- What an intake does with several requests, which it decides in their order.
use Rattle.std.specs.Prelude.{◌≡◌, ◌<◌, ◌≤◌, ◌↔◌, ◌⊎◌, ◌∷◌, ◌++◌, [], ℕ, List, length, map, true, false, Result}
use Rattle.std.specs.Prelude.{Ok}
use Rattle.std.specs.Prelude.{Err, IfOk, OnOk}
use Rattle.std.specs.List.{AllByRecursion}
use Rattle.std.specs.Result.{IsErr}
use Rattle.sqlite.specs.Store.{Ghosts}
use Rattle.sqlite.specs.Tree.{Trees}
use Rattle.filing_model.specs.declared.answer.Answer.{Answer}
use Rattle.filing_model.specs.Request.{Request, firsts, has_key}
use Rattle.register_tables.specs.Registers.{LeavesRegister}
use Rattle.intake_core.specs.Answered.{IsAnswerTo}
use Rattle.intake_core.specs.declared.intake.Intake.{Intake}
use Rattle.intake_core.specs.declared.intake.Unavailable.{Unavailable}
use Rattle.intake_core.specs.declared.intake.Unavailable.TheVariants.{Down, Full, Store}
use Rattle.intake_core.specs.Held.{shows, limit_of, old_style_of, old_style_in, has_stopped, HoldsRequests}
use Rattle.intake_core.specs.Held.{ForRequests, KeepsSetting, SurvivesAs}
use Rattle.intake_core.specs.Held.{with_request}

-- what a request gets
abbrev pub Given : Type 0
Given = Result Answer Unavailable

-- a request, and what it got
abbrev pub Decided : Type 0
Decided = Request × Given

-- what is held after a request: one that got no answer counts as nothing
abbrev pub after_one : List Request → Request → Given → List Request
after_one F r (Ok a) = with_request F r
after_one F r (Err e) = F

-- and after several
abbrev pub after : List Request → List Decided → List Request
after F [] = F
after F (d ∷ ds) = after (after_one F d.0 d.1) ds

-- What a request gets after these: its answer, and `Full` for a new key alone, and always if the limit is reached.
pub record IsDecidedAfter (limit : ℕ) (old_style F : List Request) (r : Request) (result : Given) : Type 0 where
  pub answer : IfOk result (IsAnswerTo old_style F r)
  pub full : (k : ℕ) → result ≡ Err (Full k) → (has_key F r ≡ false) × (limit ≤ k) × (k ≡ length F)
  pub room : OnOk result (has_key F r ≡ false → length F < limit)

-- each gets what it gets after those before it
abbrev pub AreDecidedInTurn : ℕ → List Request → List Request → List Decided → Type 0
AreDecidedInTurn limit old_style F [] = Unit {0}
AreDecidedInTurn limit old_style F (d ∷ ds) =
    IsDecidedAfter limit old_style F d.0 d.1 × AreDecidedInTurn limit old_style (after_one F d.0 d.1) ds

-- The trees have what was held after the requests up to some place, with the one at this place, and perhaps more that
-- follow it.
pub record LeavesSome (old_style : ℕ) (F : List Request) (ds : List Decided) (trees : Trees) : Type 0 where
  pub before : List Decided
  pub next : Decided
  pub more : List Decided
  pub rest : List Decided
  pub are : ds ≡ before ++ next ∷ more ++ rest
  pub leaves : LeavesRegister old_style (firsts (after F before ++ next.0 ∷ map (λ d. d.0) more)) trees

-- The trees have all that is held after the requests, and perhaps a part of those that got no answer.
pub record LeavesHeld (old_style : ℕ) (F : List Request) (ds : List Decided) (trees : Trees) : Type 0 where
  pub before : List Decided
  pub part : List Decided
  pub rest : List Decided
  pub are : ds ≡ before ++ part ++ rest
  pub leaves : LeavesRegister old_style (firsts (after F ds ++ map (λ d. d.0) part)) trees

-- one of them got `Store`
abbrev pub HasFailed : List Decided → Type 0
HasFailed [] = ⊥
HasFailed (d ∷ ds) = (d.1 ≡ Err Store) ⊎ HasFailed ds

-- nobody gets an answer after one that got `Store`
abbrev pub EndAtFailure : List Decided → Type 0
EndAtFailure [] = Unit {0}
EndAtFailure (d ∷ ds) = (d.1 ≡ Err Store → AllByRecursion (λ e. IsErr e.1) ds) × EndAtFailure ds

-- What `submit_all` does with requests, if this holds of those that the intake held before. What is said of a crash
-- needs one thing more, as that the register was open.
pub record DecidesEachIf {S : Type 0} (g : Ghosts S) (Open : Type 0) (Holds : List Request → Type 0) (ds : List Decided)
    (old new : Intake S) : Type 0 where
  pub answers : ForRequests g old new (λ F. Holds F → AreDecidedInTurn (limit_of old) (old_style_in old F) F ds
      × HoldsRequests g new (after F ds))
  -- The limit and the old-style requests never change.
  pub setting : KeepsSetting g old new
  -- A crash in the call leaves what one before it could leave, or some of them as `LeavesSome` says. One after it
  -- leaves all that is held, or what one before the call could leave, if nothing more is held.
  pub crash : SurvivesAs g old new (λ F trees. Open → Holds F → LeavesSome (old_style_of old) F ds trees)
  pub durable : ForRequests g old new (λ F. Open → Holds F → (trees : Trees) → (shows g new).may_leave trees
      → ((shows g old).may_leave trees × (after F ds ≡ F)) ⊎ LeavesHeld (old_style_of old) F ds trees)
  -- After a refusal of the database nobody gets an answer, and then each gets `Down`.
  pub ends : EndAtFailure ds
  pub down : has_stopped old ≡ true → AllByRecursion (λ d. d.1 ≡ Err Down) ds × (new ≡ old)
  pub stops : (has_stopped new ≡ true) ↔ ((has_stopped old ≡ true) ⊎ HasFailed ds)
  pub up : AllByRecursion (λ d. d.1 ≡ Err Down → has_stopped new ≡ true) ds

-- what it does whatever the intake held
abbrev pub DecidesEach : {S : Type 0} → Ghosts S → List Decided → Intake S → Intake S → Type 0
DecidesEach g ds old new = DecidesEachIf g (Unit {0}) (λ F. Unit {0}) ds old new
