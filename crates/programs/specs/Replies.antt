-- What each connection of a port gets that was answered in turns; own rules.
use Rattle.std.specs.Prelude.{◌≡◌, ◌⊎◌, ℕ, Bool, true, false, List, [], ◌∷◌, ◌++◌, map, None, IfSome, is_some}
use Rattle.std.specs.Prelude.{slice_index_or}
use Rattle.std.specs.Prelude.{if◌then◌else◌}
use Rattle.std.specs.List.{AllByRecursion, flat_map}
use Rattle.http_messages.specs.Message.{Ending}
use Rattle.http_messages.specs.Reply.{render}
use Rattle.connection_hall.specs.declared.stream.Stream.{Ghosts}
use Rattle.connection_hall.specs.declared.why.Why.{Why}
use Rattle.connection_hall.specs.declared.why.Why.TheVariants.{Done}
use Rattle.connection_hall.specs.Answers.{Answer, answer_to, own, text_of, interim_at, EndsBy, AnswersAll, ClosesBehind}
use Rattle.filing_model.specs.Prefix.{IsPrefixOf}
use Rattle.filing_model.specs.Request.{Request}
use Rattle.filing_model.specs.Serving.{BeginsArrivals}
use Rattle.filing_model.specs.Text.{completed_at, reply_text_with}
use Rattle.gateway_rounds.specs.Away.{away_reply}
use Rattle.gateway_rounds.specs.Ports.{Port}
use Rattle.intake_process.specs.Turns.{Told, Turn, Served, TurnedAway}

-- ---- the answers

-- the answer of a turn, if it has one: with this text, and whether its connection is closed behind it
abbrev pub given : Told → List ℕ → Bool → List Answer
given told text closes =
    if is_some told.answer then answer_to told.step.on told.step.arrival text closes ∷ [] else []

-- The answers of all turns that have one. One that was decided has the reply to its arrival after all requests that
-- were completed before it, on whatever connection. One that was turned away has the 503, and its connection is closed.
abbrev pub answers_after : List Request → List Request → List Turn → List Answer
answers_after old_style before [] = []
answers_after old_style before (Served told ∷ turns) =
    let step = told.step in
    given told (reply_text_with old_style before step.arrival step.mark) false
    ++ answers_after old_style (before ++ completed_at step.arrival step.mark) turns
answers_after old_style before (TurnedAway told ∷ turns) =
    given told (render (away_reply told.step.arrival) true) true ++ answers_after old_style before turns

-- ---- what a connection gets

-- These answers are to the first arrivals of what came, in order. The text is theirs, and the interim response that the
-- next request asks for, if the ending says so.
pub record GetsSoFar (came text : List ℕ) (answers : List Answer) : Type 0 where
  pub ending : Ending
  pub begins : BeginsArrivals came (map (λ answer. answer.arrival) answers) ending
  pub written : text ≡ flat_map text_of answers ++ interim_at ending

-- What a connection got that is over, by why it is. One that is done got the answers to all that its bytes spell, or
-- was closed behind the last of them though more could follow. One that is over for another reason got a first part.
abbrev pub GetsUntil : Why → List ℕ → List ℕ → List Answer → Type 0
GetsUntil Done came went answers = AnswersAll came went answers ⊎ ClosesBehind came went answers
GetsUntil why came went answers = (text : List ℕ) × IsPrefixOf went text × GetsSoFar came text answers

-- if it is known what came on a stream and what went, this holds of both
abbrev pub IfKnown : {S N : Type 0} → Ghosts S N → S → (List ℕ → List ℕ → Type 0) → Type 0
IfKnown s stream Holds = IfSome (s.came stream) (λ came. IfSome (s.went stream) (Holds came))

-- it goes on after each of its answers but the last
abbrev pub GoesOn : List Answer → Type 0
GoesOn answers = (is_over : Bool) × EndsBy answers is_over

-- Each connection got those of these answers that are its own, in their order, and none behind one that closes it. One
-- in a place is owed the last of their text, and is closing if the last of them closes it.
pub record EachGets {S N : Type 0} (s : Ghosts S N) (answers : List Answer) (port : Port S) : Type 0 where
  pub in_place : (i : ℕ) → IfSome (slice_index_or port.hall.places.items i None) (λ c.
      EndsBy (own c.number answers) c.is_closing
      × IfKnown s c.stream (λ came went. GetsSoFar came (went ++ c.owed.items) (own c.number answers)))
  pub over : IfSome port.traffic (λ traffic. AllByRecursion (λ gone.
      GoesOn (own gone.number answers)
      × IfKnown s gone.stream (λ came went. GetsUntil gone.why came went (own gone.number answers))) traffic.over)
