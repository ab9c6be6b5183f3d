-- Steps as connections, on each of which one arrival came; own rules.
use Rattle.std.specs.Prelude.{◌≡◌, ℕ, List, [], ◌∷◌, ◌++◌, length, take, if◌then◌else◌}
use Rattle.http_messages.specs.Head.{closes}
use Rattle.http_messages.specs.Message.{Arrival, Read, Refused, BeginsRequest, IsRefused}
use Rattle.filing_model.specs.declared.served.Ended.{Ended}
use Rattle.filing_model.specs.declared.served.Ended.TheVariants.{Closed, InputEnded, Fault}
use Rattle.filing_model.specs.Prefix.{IsPrefixOf}
use Rattle.filing_model.specs.Request.{Request}
use Rattle.filing_model.specs.Serving.{Keeping, keeping, kept_by}
use Rattle.filing_model.specs.Steps.{Step, all_completed, text_of_step}
use Rattle.filing_model.specs.Text.{completed_at}
use Rattle.gateway_server.specs.Connections.{Connection}

-- The bytes begin with this arrival, which ends after n of them. What is refused has no end of its own, and takes them
-- all.
abbrev pub BeginsArrival : List ℕ → Arrival → ℕ → Type 0
BeginsArrival bytes (Read message) n = BeginsRequest bytes message n
BeginsArrival bytes (Refused refusal) n = IsRefused bytes refusal × (n ≡ length bytes)

-- how a connection ends of which nothing more comes behind this arrival, if no fault ends it
abbrev pub end_behind : Arrival → Ended
end_behind (Read message) = if closes message.head then Closed else InputEnded
end_behind (Refused refusal) = Closed

-- how requests are kept while this step is served, after those steps
abbrev pub keeping_at : ℕ → List Request → List Request → List Step → Step → Keeping
keeping_at limit old_style before steps step =
    keeping limit old_style (kept_by before (all_completed steps))
    (kept_by before (all_completed (steps ++ step ∷ [])))

-- the whole text was written and the connection ended so, or a fault ended it after a first part of the text
abbrev pub GetsText : List ℕ → Ended → Ended → List ℕ → Type 0
GetsText text end Closed out = (end ≡ Closed) × (out ≡ text)
GetsText text end InputEnded out = (end ≡ InputEnded) × (out ≡ text)
GetsText text end (Fault fault) out = IsPrefixOf out text

-- The connection has the arrival of this step and nothing else, and its mark. It got the text of the step after these
-- requests, or a first part, as none.
pub record IsOfStep (old_style before : List Request) (step : Step) (connection : Connection) : Type 0 where
  pub came : List ℕ
  pub count : ℕ
  pub begins : BeginsArrival came step.arrival count
  pub read : connection.read ≡ take count came
  pub marks : connection.output.marks ≡ step.mark ∷ []
  pub gets : GetsText (text_of_step old_style before step) (end_behind step.arrival) connection.output.ended
      connection.output.bytes

-- each is the connection of its step, after the requests that were completed before it
abbrev pub AreOfSteps : List Request → List Request → List Step → List Connection → Type 0
AreOfSteps old_style before [] [] = Unit {0}
AreOfSteps old_style before [] (connection ∷ connections) = ⊥
AreOfSteps old_style before (step ∷ steps) [] = ⊥
AreOfSteps old_style before (step ∷ steps) (connection ∷ connections) =
    IsOfStep old_style before step connection
    × AreOfSteps old_style (before ++ completed_at step.arrival step.mark) steps connections
