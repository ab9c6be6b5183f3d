-- After requests with the same firsts.
use Rattle.std.proofs.Common.{◌≡◌, ◌∙◌, ◌++◌, ◌∷◌, [], List, ℕ, Option, Some, None, refl, ap}
use Rattle.std.specs.Prelude.{IfSome}
use Rattle.http_messages.specs.Head.{closes}
use Rattle.http_messages.specs.Message.{Arrival, Read, Refused}
use Rattle.http_messages.specs.Reply.{render}
use Rattle.connection_hall.specs.Answers.{Answer}
use Rattle.filing_model.specs.declared.served.Mark.{Mark}
use Rattle.filing_model.specs.declared.served.Mark.TheVariants.{Done, Unavailable, NotFiled}
use Rattle.filing_model.specs.Request.{Request, firsts}
use Rattle.filing_model.specs.Steps.{Step, StepsFit}
use Rattle.filing_model.specs.Text.{MarkFits, MarksFit, completed_at, reply_text_with}
use Rattle.filing_model.proofs.Alike.{firsts_alike, marks_fit_alike, reply_alike}
use Rattle.gateway_rounds.specs.Turns.{Turn, AreTold, IsAnswerTo, IsTold, completed_by}

module _ (old new : List Request) (same : firsts old ≡ firsts new) where
  text_alike : (old_style : List Request) (arrival : Arrival) (mark : Mark)
      → reply_text_with old_style old arrival mark ≡ reply_text_with old_style new arrival mark
  text_alike old_style (Read m) Unavailable = refl
  text_alike old_style (Read m) Done = ap (λ x. render x (closes m.head)) (reply_alike old new same old_style m)
  text_alike old_style (Read m) NotFiled = ap (λ x. render x (closes m.head)) (reply_alike old new same old_style m)
  text_alike old_style (Refused refusal) mark = refl

  fit_alike : (limit : ℕ) (arrival : Arrival) (mark : Mark) → MarkFits limit old arrival mark
      → MarkFits limit new arrival mark
  unfolding MarksFit
  fit_alike limit arrival mark fit = (marks_fit_alike limit old new same (arrival ∷ []) (mark ∷ []) (fit, tt)).0

  answer_alike : (old_style : List Request) (step : Step) (answer : Option Answer)
      → IfSome answer (IsAnswerTo old_style old step) → IfSome answer (IsAnswerTo old_style new step)
  answer_alike old_style step None is = tt
  answer_alike old_style step (Some answer) is = record {
    on = is.on;
    arrival = is.arrival;
    text = is.text ∙ text_alike old_style step.arrival step.mark;
    closes = is.closes;
  }

  is_told_alike : (old_style : List Request) (step : Option Step) (answer : Option Answer)
      → IsTold old_style old step answer → IsTold old_style new step answer
  is_told_alike old_style None answer told = told
  is_told_alike old_style (Some step) answer told = answer_alike old_style step answer told

-- marks fit, and each is told its answer
pub steps_fit_alike : (limit : ℕ) (old new : List Request) → firsts old ≡ firsts new → (steps : List Step)
    → StepsFit limit old steps → StepsFit limit new steps
steps_fit_alike limit old new same [] fit = tt
steps_fit_alike limit old new same (step ∷ steps) fit =
    let done = completed_at step.arrival step.mark in (
      fit_alike old new same limit step.arrival step.mark fit.0,
      steps_fit_alike limit (old ++ done) (new ++ done) (firsts_alike old new same done) steps fit.1,
    )

pub are_told_alike : (old_style old new : List Request) → firsts old ≡ firsts new → (turns : List Turn)
    → AreTold old_style old turns → AreTold old_style new turns
are_told_alike old_style old new same [] told = tt
are_told_alike old_style old new same (turn ∷ turns) told =
    let done = completed_by turn.step in (
      is_told_alike old new same old_style turn.step turn.answer told.0,
      are_told_alike old_style (old ++ done) (new ++ done) (firsts_alike old new same done) turns told.1,
    )
