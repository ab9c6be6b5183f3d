-- The steps of answering one place. No public clause cites this file.
use Rattle.std.specs.Prelude.{◌≡◌, ◌++◌, ℕ, Bool, List, Option, Some, None, IfOk, IfSome, [], ◌∷◌}
use Rattle.std.specs.Option.{option_to_list}
use Rattle.http_messages.specs.Message.{Arrival}
use Rattle.http_messages.specs.Replies.{reply_parts}
use Rattle.http_messages.specs.Reply.{render}
use Rattle.connection_hall.specs.declared.hall.Hall.{Hall}
use Rattle.connection_hall.specs.declared.stream.Stream.{Ghosts}
use Rattle.connection_hall.specs.Answers.{Answer}
use Rattle.connection_hall.specs.Running.{KeepsOtherPlaces, arrival_at, number_at}
use Rattle.sqlite.specs.Store.{Ghosts as Disk}
use Rattle.filing_model.specs.Request.{Request}
use Rattle.filing_model.specs.Serving.{kept_by}
use Rattle.filing_model.specs.Text.{MarkFits, completed_at, reply_text_with}
use Rattle.gateway_server.specs.declared.decide.Decided.{Decided}
use Rattle.intake_core.specs.declared.intake.Intake.{Intake}
use Rattle.gateway_rounds.specs.Ports.{KeepsPort, Port, Runs}
use Rattle.gateway_rounds.specs.Turns.{Turn, IsFree, TakesTurns}

-- The mark fits, what is kept follows from it, and the reply, if there was memory for one, is that to the arrival.
pub record Decides (limit : ℕ) (old_style before after : List Request) (arrival : Arrival) (decided : Decided)
    (closes : Bool) : Type 0 where
  pub fit : MarkFits limit before arrival decided.mark
  pub kept : after ≡ kept_by before (completed_at arrival decided.mark)
  pub reply : IfOk decided.reply (λ r. render (reply_parts r) closes
      ≡ reply_text_with old_style before arrival decided.mark)

-- an answer to what waits in a place, with such a text
pub record IsAnswerBy {S : Type 0} (hall : Hall S) (place : ℕ) (IsText : List ℕ → Type 0) (closes : Bool)
    (answer : Answer) : Type 0 where
  pub on : answer.on ≡ number_at hall place
  pub arrival : arrival_at hall place ≡ Some answer.arrival
  pub text : IsText answer.text
  pub closing : answer.closes ≡ closes

-- What waited in a place was told such a text, or its connection is over.
pub record TellsPlace {S N : Type 0} (s : Ghosts S N) (place : ℕ) (old new : Port S) (IsText : List ℕ → Type 0)
    (closes : Bool) : Type 0 where
  pub answer : Option Answer
  pub is : IfSome answer (IsAnswerBy old.hall place IsText closes)
  pub running : (answers : List Answer) → Runs s answers old → Runs s (answers ++ option_to_list answer) new
  pub over : answer ≡ None → IsFree new.hall place
  pub others : KeepsOtherPlaces place old.hall new.hall
  pub port : KeepsPort old new

-- it is whatever text the reply has
abbrev pub IsTextOf : Decided → Bool → List ℕ → Type 0
IsTextOf decided closes text =
    (wanted : List ℕ) → IfOk decided.reply (λ r. render (reply_parts r) closes ≡ wanted) → text ≡ wanted

-- What waited in a place had its turn.
pub record TakesPlace {S N D : Type 0} (s : Ghosts S N) (g : Disk D) (place : ℕ) (old new : Port S)
    (intake intake' : Intake D) : Type 0 where
  pub turn : Turn
  pub there : turn.place ≡ place
  pub takes : TakesTurns s g (turn ∷ []) old new intake intake'
