-- What becomes of what waits in places, one after another; own rules.
use Rattle.std.specs.Prelude.{◌≡◌, ◌≢◌, ◌⊎◌, ◌≤◌, ◌<◌, ◌++◌, ◌∷◌, [], ℕ, false, List, Option, Some, None, IfSome}
use Rattle.std.specs.Prelude.{slice_index_or}
use Rattle.std.specs.List.{AllByRecursion}
use Rattle.std.specs.Option.{option_to_list}
use Rattle.sqlite.specs.Store.{Ghosts as Disk}
use Rattle.http_messages.specs.Message.{Arrival}
use Rattle.connection_hall.specs.declared.hall.Hall.{Hall}
use Rattle.connection_hall.specs.declared.stream.Stream.{Ghosts}
use Rattle.connection_hall.specs.Answers.{Answer}
use Rattle.connection_hall.specs.Running.{arrival_at, number_at}
use Rattle.filing_model.specs.Request.{Request}
use Rattle.filing_model.specs.Serving.{kept_by}
use Rattle.filing_model.specs.Steps.{Step, StepsFit, all_completed}
use Rattle.filing_model.specs.Text.{completed_at, reply_text_with}
use Rattle.gateway_server.specs.Steps.{BeginsArrival}
use Rattle.intake_core.specs.declared.intake.Intake.{Intake}
use Rattle.intake_core.specs.Held.{ForRequests, HoldsRequests, IsTransition, KeepsSetting, limit_of, old_style_in}
use Rattle.gateway_rounds.specs.Ports.{KeepsPort, Port, Runs}

-- What became of what waited in a place: the step that it was, unless there was no memory to decide it, and its answer,
-- unless there was no memory for that.
pub record Turn : Type 0 where
  pub place : ℕ
  pub step : Option Step
  pub answer : Option Answer

-- the steps of these turns, in their order, and the answers
abbrev pub steps_of : List Turn → List Step
steps_of [] = []
steps_of (turn ∷ turns) = option_to_list turn.step ++ steps_of turns

abbrev pub answers_of : List Turn → List Answer
answers_of [] = []
answers_of (turn ∷ turns) = option_to_list turn.answer ++ answers_of turns

-- none of them is in this place
abbrev pub AreElsewhere : ℕ → List Turn → Type 0
AreElsewhere place turns = AllByRecursion (λ turn. turn.place ≢ place) turns

-- Who looks at the places from this one on, and then at those before it, looks at one place before another.
abbrev pub IsBefore : ℕ → ℕ → ℕ → Type 0
IsBefore from place later =
    ((from ≤ place) × (later < from)) ⊎ ((place < later) × ((from ≤ place) ⊎ (later < from)))

-- the places of these turns come in this order
abbrev pub AreInOrder : ℕ → List Turn → Type 0
AreInOrder from [] = Unit {0}
AreInOrder from (turn ∷ turns) =
    AllByRecursion (λ later. IsBefore from turn.place later.place) turns × AreInOrder from turns

-- ---- what each is told

-- the step waited in this place
pub record WaitedIn {S : Type 0} (hall : Hall S) (place : ℕ) (step : Step) : Type 0 where
  pub arrival : arrival_at hall place ≡ Some step.arrival
  pub on : number_at hall place ≡ step.on

-- no connection is in this place
abbrev pub IsFree : {S : Type 0} → Hall S → ℕ → Type 0
IsFree hall place = slice_index_or hall.places.items place None ≡ None

-- bytes that begin with the arrival were read on a connection
pub record Spells (arrival : Arrival) : Type 0 where
  pub came : List ℕ
  pub count : ℕ
  pub begins : BeginsArrival came arrival count

abbrev pub AreSpelled : List Turn → Type 0
AreSpelled turns = AllByRecursion (λ turn. IfSome turn.step (λ step. Spells step.arrival)) turns

-- What waited in the places of these turns was told its answers, one after another. Without an answer the connection is
-- over. Every other place has what it had.
pub record TellsTurns {S N : Type 0} (s : Ghosts S N) (turns : List Turn) (old new : Port S) : Type 0 where
  pub waited : AllByRecursion (λ turn. IfSome turn.step (WaitedIn old.hall turn.place)) turns
  pub running : (answers : List Answer) → Runs s answers old
      → Runs s (answers ++ answers_of turns) new × AreSpelled turns
  pub lost : AllByRecursion (λ turn. turn.answer ≡ None → IsFree new.hall turn.place) turns
  pub others : (i : ℕ) → AreElsewhere i turns
      → slice_index_or new.hall.places.items i None ≡ slice_index_or old.hall.places.items i None
  pub port : KeepsPort old new

-- ---- what each is told, after which requests

-- The answer to a step after these requests: it has the text of its reply, and closes only what nothing can follow.
pub record IsAnswerTo (old_style before : List Request) (step : Step) (answer : Answer) : Type 0 where
  pub on : answer.on ≡ step.on
  pub arrival : answer.arrival ≡ step.arrival
  pub text : answer.text ≡ reply_text_with old_style before step.arrival step.mark
  pub closes : answer.closes ≡ false

-- the answer, if there is one, is that to the step, after these requests
abbrev pub IsTold : List Request → List Request → Option Step → Option Answer → Type 0
IsTold old_style before None answer = answer ≡ None
IsTold old_style before (Some step) answer = IfSome answer (IsAnswerTo old_style before step)

-- what a step completed
abbrev pub completed_by : Option Step → List Request
completed_by None = []
completed_by (Some step) = completed_at step.arrival step.mark

-- each is told its answer, after all that were completed before it
abbrev pub AreTold : List Request → List Request → List Turn → Type 0
AreTold old_style before [] = Unit {0}
AreTold old_style before (turn ∷ turns) =
    IsTold old_style before turn.step turn.answer × AreTold old_style (before ++ completed_by turn.step) turns

-- the steps fit, what is kept follows from them, and each is told its answer
pub record DecidesTurns (limit : ℕ) (old_style before after : List Request) (turns : List Turn) : Type 0 where
  pub fit : StepsFit limit before (steps_of turns)
  pub kept : after ≡ kept_by before (all_completed (steps_of turns))
  pub told : AreTold old_style before turns

-- What waited in these places was decided in their order, and told so.
pub record TakesTurns {S N D : Type 0} (s : Ghosts S N) (g : Disk D) (turns : List Turn) (old new : Port S)
    (intake intake' : Intake D) : Type 0 where
  pub tells : TellsTurns s turns old new
  pub decided : IsTransition g intake intake' (λ old_style before after.
      DecidesTurns (limit_of intake) old_style before after turns)
  pub setting : KeepsSetting g intake intake'

-- It was decided and told so, and nothing was kept: what was held is held.
pub record LooksUpTurns {S N D : Type 0} (s : Ghosts S N) (g : Disk D) (turns : List Turn) (old new : Port S)
    (intake intake' : Intake D) : Type 0 where
  pub tells : TellsTurns s turns old new
  pub decided : ForRequests g intake intake' (λ before. HoldsRequests g intake' before
      × DecidesTurns (limit_of intake) (old_style_in intake before) before before turns)
  pub setting : KeepsSetting g intake intake'
