-- What waits is turned away, since the register is closed; own rules.
use Rattle.std.specs.Prelude.{◌≡◌, ℕ, Bool, true, false, List, [], Some, None, IfSome, if◌then◌else◌}
use Rattle.std.specs.List.{AllByRecursion}
use Rattle.http_messages.specs.Message.{Arrival, Read, Refused}
use Rattle.http_messages.specs.Reply.{ReplyParts, render}
use Rattle.connection_hall.specs.declared.stream.Stream.{Ghosts}
use Rattle.connection_hall.specs.Answers.{Answer}
use Rattle.connection_hall.specs.Running.{arrival_at}
use Rattle.filing_model.specs.declared.served.Mark.{Mark}
use Rattle.filing_model.specs.declared.served.Mark.TheVariants.{Unavailable, NotFiled}
use Rattle.filing_model.specs.Reply.{unavailable}
use Rattle.filing_model.specs.Steps.{Step}
use Rattle.filing_model.specs.Text.{is_head}
use Rattle.gateway_rounds.specs.Ports.{Port}
use Rattle.gateway_rounds.specs.Turns.{Turn, AreElsewhere, AreInOrder, TellsTurns}

-- the 503, which has no content in reply to HEAD (RFC 9110, section 9.3.2)
abbrev pub closing_reply : Bool → ReplyParts
closing_reply is_head =
    record { status = 503; content = if is_head then [] else unavailable.content; kind = unavailable.kind }

abbrev pub away_reply : Arrival → ReplyParts
away_reply (Read message) = closing_reply (is_head message)
away_reply (Refused refusal) = closing_reply false

-- a request may be sent again, and what is refused in the place of one asks for nothing to be filed
abbrev pub away_mark : Arrival → Mark
away_mark (Read message) = Unavailable
away_mark (Refused refusal) = NotFiled

-- the answer to a step is the 503, and closes the connection
pub record IsAwayAnswer (step : Step) (answer : Answer) : Type 0 where
  pub on : answer.on ≡ step.on
  pub arrival : answer.arrival ≡ step.arrival
  pub text : answer.text ≡ render (away_reply step.arrival) true
  pub closes : answer.closes ≡ true

-- what waited was turned away, with an answer if there was memory for that
pub record IsAway (turn : Turn) : Type 0 where
  pub step : Step
  pub is : turn.step ≡ Some step
  pub mark : step.mark ≡ away_mark step.arrival
  pub told : IfSome turn.answer (IsAwayAnswer step)

-- Wherever something waited it was turned away, in the order of the places.
pub record AnswersAway {S N : Type 0} (s : Ghosts S N) (old new : Port S) : Type 0 where
  pub turns : List Turn
  pub tells : TellsTurns s turns old new
  pub away : AllByRecursion IsAway turns
  pub in_order : AreInOrder 0 turns
  pub each : (i : ℕ) → AreElsewhere i turns → arrival_at old.hall i ≡ None
