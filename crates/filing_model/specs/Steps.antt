-- Arrivals of several connections, answered one after another; own rules.
use Rattle.std.specs.Prelude.{ℕ, List, [], ◌∷◌, ◌++◌, nat_eq, if◌then◌else◌}
use Rattle.http_messages.specs.Message.{Arrival}
use Rattle.filing_model.specs.declared.served.Mark.{Mark}
use Rattle.filing_model.specs.Request.{Request}
use Rattle.filing_model.specs.Text.{MarkFits, completed_at, interim_of, reply_text_with}

-- an arrival that was answered: on which connection, counted as they came, and with which mark
pub record Step : Type 0 where
  pub on : ℕ
  pub arrival : Arrival
  pub mark : Mark

-- these marks may be given, each after all requests that were completed before it
abbrev pub StepsFit : ℕ → List Request → List Step → Type 0
StepsFit limit before [] = Unit {0}
StepsFit limit before (step ∷ steps) =
    MarkFits limit before step.arrival step.mark
    × StepsFit limit (before ++ completed_at step.arrival step.mark) steps

-- what they completed, in their order
abbrev pub all_completed : List Step → List Request
all_completed [] = []
all_completed (step ∷ steps) = completed_at step.arrival step.mark ++ all_completed steps

-- what is written for one, after these requests
abbrev pub text_of_step : List Request → List Request → Step → List ℕ
text_of_step old_style before step =
    interim_of step.arrival ++ reply_text_with old_style before step.arrival step.mark

-- what is written on one connection: for each of its own arrivals, the text after all requests that were completed
-- before it, on whatever connection
abbrev pub text_on : List Request → List Request → ℕ → List Step → List ℕ
text_on old_style before i [] = []
text_on old_style before i (step ∷ steps) =
    (if nat_eq step.on i then text_of_step old_style before step else [])
    ++ text_on old_style (before ++ completed_at step.arrival step.mark) i steps

-- the arrivals of one connection, and their marks
abbrev pub arrivals_on : ℕ → List Step → List Arrival
arrivals_on i [] = []
arrivals_on i (step ∷ steps) = (if nat_eq step.on i then step.arrival ∷ [] else []) ++ arrivals_on i steps

abbrev pub marks_on : ℕ → List Step → List Mark
marks_on i [] = []
marks_on i (step ∷ steps) = (if nat_eq step.on i then step.mark ∷ [] else []) ++ marks_on i steps

-- these arrivals, all on one connection
abbrev pub steps_on : ℕ → List Arrival → List Mark → List Step
steps_on i [] marks = []
steps_on i (arrival ∷ arrivals) [] = []
steps_on i (arrival ∷ arrivals) (mark ∷ marks) =
    record { on = i; arrival = arrival; mark = mark } ∷ steps_on i arrivals marks
