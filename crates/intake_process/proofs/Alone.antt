-- Turns are connections on which one arrival came alone.
use Rattle.std.proofs.Common.{◌≡◌, ◌||◌, ℕ, Bool, true, false, List, [], ◌∷◌, ◌++◌, Option, Some, None, Ok, refl}
use Rattle.std.proofs.Common.{sym}
use Rattle.std.proofs.Common.{◌∙◌, ap, subst}
use Rattle.std.specs.Prelude.{IfSome, if◌then◌else◌}
use Rattle.http_messages.specs.Head.{closes}
use Rattle.http_messages.specs.Message.{Arrival, Read, Refused, Ending}
use Rattle.connection_hall.specs.Answers.{Answer, ends_with, is_last}
use Rattle.connection_hall.specs.Answers as hall
use Rattle.filing_model.specs.declared.served.Ended.TheVariants.{Closed, InputEnded}
use Rattle.filing_model.specs.Request.{Request}
use Rattle.filing_model.specs.Serving.{BeginsArrivals, keeping, kept_by}
use Rattle.filing_model.specs.Steps.{Step, StepsFit, all_completed, text_of_step}
use Rattle.filing_model.specs.Text.{completed_at, interim_of}
use Rattle.gateway_server.specs.Connections.{ServeInTurn}
use Rattle.gateway_server.specs.Steps.{AreOfSteps, GetsText, IsOfStep, end_behind}
use Rattle.gateway_server.proofs.Steps.{arrives_first, in_turn}
use Rattle.gateway_rounds.specs.Turns.{IsAnswerTo}
use Rattle.intake_process.specs.Turning.{IsTurnedAway}
use Rattle.intake_process.specs.Turns.{Told, Turn, Served, TurnedAway, connection_of, ended_as, written_as, served_in}
use Rattle.intake_process.specs.Turns.{steps_in}
use Rattle.intake_process.specs.Turns.{IsDecided, IsAway, SpellArrival, AreTurns, AreTurnedAway}

same_interim : (arrival : Arrival) → hall.interim_of arrival ≡ interim_of arrival
same_interim (Read m) = refl
same_interim (Refused refusal) = refl

-- ---- one that was decided

-- a connection that ends so got its whole text
got_all : (text out : List ℕ) (is_closed : Bool) → out ≡ text
    → GetsText text (if is_closed then Closed else InputEnded) (if is_closed then Closed else InputEnded) out
got_all text out true same = (refl, same)
got_all text out false same = (refl, same)

got_by : (text out : List ℕ) (arrival : Arrival) (is_over : Bool) → is_over ≡ is_last arrival → out ≡ text
    → GetsText text (end_behind arrival) (if is_over then Closed else InputEnded) out
got_by text out (Read m) is_over over same =
    subst (λ b. GetsText text (end_behind (Read m)) (if b then Closed else InputEnded) out) (sym over)
    (got_all text out (closes m.head) same)
got_by text out (Refused refusal) is_over over same =
    subst (λ b. GetsText text Closed (if b then Closed else InputEnded) out) (sym over) (refl, same)

-- an answer closes only what nothing can follow
over_by : (answer : Answer) (arrival : Arrival) → answer.closes ≡ false → answer.arrival ≡ arrival
    → ends_with answer ≡ is_last arrival
over_by answer arrival open' same = ap (λ c. c || is_last answer.arrival) open' ∙ ap is_last same

gets : (old_style before : List Request) (step : Step) (answer : Option Answer)
    → IfSome answer (IsAnswerTo old_style before step)
    → GetsText (text_of_step old_style before step) (end_behind step.arrival) (ended_as answer) (written_as answer)
gets old_style before step None is = (text_of_step old_style before step, refl)
gets old_style before step (Some answer) is =
    got_by (text_of_step old_style before step) (written_as (Some answer)) step.arrival (ends_with answer)
    (over_by answer step.arrival is.closes is.arrival)
    (ap (λ (arrival : Arrival). hall.interim_of arrival ++ answer.text) is.arrival
    ∙ ap (λ t. t ++ answer.text) (same_interim step.arrival) ∙ ap (λ t. interim_of step.arrival ++ t) is.text)

of_step : (limit : ℕ) (old_style before : List Request) (told : Told) → IsDecided limit old_style before told
    → IsOfStep old_style before told.step (connection_of told)
of_step limit old_style before told is = record {
  came = is.spelled.came;
  count = is.spelled.count;
  begins = is.spelled.begins;
  read = is.spelled.are;
  marks = refl;
  gets = gets old_style before told.step told.answer is.answered;
}

-- ---- one that was turned away

begins_alone : (bytes : List ℕ) (arrival : Arrival) → SpellArrival bytes arrival
    → BeginsArrivals bytes (arrival ∷ []) Ending.Closed
begins_alone bytes arrival spelled =
    subst (λ (bs : List ℕ). BeginsArrivals bs (arrival ∷ []) Ending.Closed) (sym spelled.are)
    (arrives_first spelled.came spelled.count arrival spelled.begins)

away : (told : Told) (answer : Option Answer) → (it : IsAway told) → answer ≡ Some it.answer
    → IsTurnedAway told.read (told.step.mark ∷ []) (ended_as answer) (written_as answer)
away told None it is = absurd (let h : None ≡ Some it.answer = is in cc)
away told (Some answer) it is =
    let same : answer ≡ it.answer = let h : Some answer ≡ Some it.answer = is in cc in
    record {
      arrival = told.step.arrival;
      begins = begins_alone told.read told.step.arrival it.spelled;
      marked = it.marked;
      sent = Ok tt;
      end = ap (λ b. if b then Closed else InputEnded) (ap ends_with same
          ∙ ap (λ c. c || is_last it.answer.arrival) it.closes);
      written = ap (λ (a : Answer). hall.interim_of a.arrival ++ a.text) same
          ∙ ap (λ (arrival : Arrival). hall.interim_of arrival ++ it.answer.text) it.arrival
          ∙ ap (λ t. t ++ it.answer.text) (same_interim told.step.arrival)
          ∙ ap (λ t. interim_of told.step.arrival ++ t) it.text;
    }

-- ---- all of them

pub fit_all : (limit : ℕ) (old_style before : List Request) (turns : List Turn) → AreTurns limit old_style before turns
    → StepsFit limit before (steps_in turns)
fit_all limit old_style before [] are = tt
fit_all limit old_style before (Served told ∷ turns) are =
    (are.0.fit, fit_all limit old_style (before ++ completed_at told.step.arrival told.step.mark) turns are.1)
fit_all limit old_style before (TurnedAway told ∷ turns) are = fit_all limit old_style before turns are.1

of_steps : (limit : ℕ) (old_style before : List Request) (turns : List Turn) → AreTurns limit old_style before turns
    → AreOfSteps old_style before (steps_in turns) (served_in turns)
of_steps limit old_style before [] are = tt
of_steps limit old_style before (Served told ∷ turns) are =
    let after = before ++ completed_at told.step.arrival told.step.mark in
    (of_step limit old_style before told are.0, of_steps limit old_style after turns are.1)
of_steps limit old_style before (TurnedAway told ∷ turns) are = of_steps limit old_style before turns are.1

pub all_away : (limit : ℕ) (old_style before : List Request) (turns : List Turn) → AreTurns limit old_style before turns
    → AreTurnedAway turns
all_away limit old_style before [] are = tt
all_away limit old_style before (Served told ∷ turns) are =
    all_away limit old_style (before ++ completed_at told.step.arrival told.step.mark) turns are.1
all_away limit old_style before (TurnedAway told ∷ turns) are =
    (away told told.answer are.0 are.0.given, all_away limit old_style before turns are.1)

pub all_in_turn : (limit : ℕ) (old_style before after : List Request) (turns : List Turn)
    → AreTurns limit old_style before turns → after ≡ kept_by before (all_completed (steps_in turns))
    → ServeInTurn (keeping limit old_style before after) (served_in turns)
all_in_turn limit old_style before after turns are kept =
    subst (λ (last : List Request). ServeInTurn (keeping limit old_style before last) (served_in turns)) (sym kept)
    (in_turn limit old_style before (steps_in turns) (served_in turns) (fit_all limit old_style before turns are)
    (of_steps limit old_style before turns are))
