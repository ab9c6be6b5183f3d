-- What connections were answered, and what each of them gets; own rules.
use Rattle.std.specs.Prelude.{◌≡◌, ◌||◌, ℕ, Bool, true, false, List, [], ◌∷◌, ◌++◌, filter, map, nat_eq, if◌then◌else◌}
use Rattle.std.specs.List.{flat_map}
use Rattle.http_messages.specs.Head.{closes}
use Rattle.http_messages.specs.Message.{Arrival, Read, Refused, Ending, Closed, Rest, ArrivalsThen, HasArrivals}
use Rattle.http_messages.specs.Message.{awaits, interim}
use Rattle.http_connection.specs.Connection.{Leaves}

-- An arrival that was answered: on which connection, counted as they came, with which text, an interim response not
-- counted, and whether the connection was closed after it though more could follow.
pub record Answer : Type 0 where
  pub on : ℕ
  pub arrival : Arrival
  pub text : List ℕ
  pub closes : Bool

-- the answers on one connection, in their order
abbrev pub own : ℕ → List Answer → List Answer
own number answers = filter (λ answer. nat_eq answer.on number) answers

-- the interim response that a request asks for (RFC 9110, section 10.1.1)
abbrev pub interim_of : Arrival → List ℕ
interim_of (Read request) = if awaits request.head then interim else []
interim_of (Refused refusal) = []

-- the interim response that less than a request asks for, if the input ended in that
abbrev pub interim_at : Ending → List ℕ
interim_at Closed = []
interim_at (Rest asks) = if asks then interim else []

-- whether nothing can follow
abbrev pub is_last : Arrival → Bool
is_last (Read request) = closes request.head
is_last (Refused refusal) = true

-- what is written for an arrival: the interim response that it asks for, and then its text
abbrev pub text_of : Answer → List ℕ
text_of answer = interim_of answer.arrival ++ answer.text

-- what arrived on one connection, and what it gets, in order
abbrev pub arrivals_on : ℕ → List Answer → List Arrival
arrivals_on number answers = map (λ answer. answer.arrival) (own number answers)

abbrev pub text_on : ℕ → List Answer → List ℕ
text_on number answers = flat_map text_of (own number answers)

-- whether the connection is over after this answer
abbrev pub ends_with : Answer → Bool
ends_with answer = answer.closes || is_last answer.arrival

-- A connection goes on after each of its answers but the last; this is whether it is over after that.
abbrev pub EndsBy : List Answer → Bool → Type 0
EndsBy [] is_over = is_over ≡ false
EndsBy (last ∷ []) is_over = is_over ≡ ends_with last
EndsBy (answer ∷ next ∷ answers) is_over = (ends_with answer ≡ false) × EndsBy (next ∷ answers) is_over

-- whether the connection was closed after the last of these answers though more could follow
abbrev pub closes_last : List Answer → Bool
closes_last [] = false
closes_last (last ∷ []) = last.closes
closes_last (answer ∷ next ∷ answers) = closes_last (next ∷ answers)

-- Of all bytes that came, these answers are to all arrivals. What went is their text, and the interim response that
-- less
-- than a request asks for behind them.
pub record AnswersAll (came went : List ℕ) (answers : List Answer) : Type 0 where
  pub ending : Ending
  pub arrivals : HasArrivals came (map (λ answer. answer.arrival) answers) ending
  pub text : went ≡ flat_map text_of answers ++ interim_at ending

-- Of all bytes that came, these answers are to the first arrivals. What went is their text, and after the last of them
-- the connection was closed.
pub record ClosesBehind (came went : List ℕ) (answers : List Answer) : Type 0 where
  pub left : List ℕ
  pub arrivals : ArrivalsThen (Leaves left) came (map (λ answer. answer.arrival) answers) (Rest false)
  pub text : went ≡ flat_map text_of answers
  pub closes : closes_last answers ≡ true

-- the answer to what arrived on a connection
abbrev pub answer_to : ℕ → Arrival → List ℕ → Bool → Answer
answer_to number arrival text closes = record { on = number; arrival = arrival; text = text; closes = closes }
