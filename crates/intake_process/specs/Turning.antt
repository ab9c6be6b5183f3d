-- A connection that is turned away, since there is no register; own rule.
use Rattle.std.specs.Prelude.{◌≡◌, ◌≤◌, ℕ, true, List, [], ◌∷◌, length, Some, Result, Ok, Err}
use Rattle.std.specs.Io.KnownBytes.{Consumes, Appends}
use Rattle.http_messages.specs.declared.refusal.ConnFault.{ConnFault}
use Rattle.http_messages.specs.declared.refusal.ConnFault.TheVariants as fault
use Rattle.http_messages.specs.Message.{Arrival, Ending, IsRest}
use Rattle.http_messages.specs.Reads.{max_reads}
use Rattle.http_messages.specs.Reply.{render}
use Rattle.http_wire.specs.Calls.{WritesAsked, WritesUpTo}
use Rattle.http_wire.specs.Wire.{Wire}
use Rattle.filing_model.specs.declared.served.Ended.{Ended}
use Rattle.filing_model.specs.declared.served.Ended.TheVariants.{Closed, InputEnded, Fault}
use Rattle.filing_model.specs.declared.served.Mark.{Mark}
use Rattle.filing_model.specs.Serving.{BeginsArrivals}
use Rattle.filing_model.specs.Text.{interim_of}
use Rattle.gateway_server.specs.declared.serving.Served.{Served}
use Rattle.gateway_rounds.specs.Away.{away_mark, away_reply}
use Rattle.gateway_server.specs.Answered.{WritesText}
use Rattle.gateway_server.specs.Progress.{IsEndedBy, IsReadToEnd}

-- the reply closes the connection, unless it is not written whole
abbrev pub end_by : Result (Unit {0}) ConnFault → Ended
end_by (Ok done) = Closed
end_by (Err fault) = Fault fault

-- nothing arrived, or a fault came first; no more was written than the interim response that the bytes ask for
abbrev pub IsUnanswered : List ℕ → Ended → List ℕ → Type 0
IsUnanswered bytes Closed out = ⊥
IsUnanswered bytes InputEnded out = IsRest bytes × WritesAsked (Some []) (Some out) bytes
IsUnanswered bytes (Fault fault) out = WritesUpTo (Some []) (Some out) bytes fault

-- The bytes begin with an arrival. Its interim response was written, and behind it the 503 that closes, or the first
-- bytes of that.
pub record AnswersAway (bytes : List ℕ) (mark : Mark) (ended : Ended) (out : List ℕ) : Type 0 where
  pub arrival : Arrival
  pub begins : BeginsArrivals bytes (arrival ∷ []) Ending.Closed
  pub marked : mark ≡ away_mark arrival
  pub sent : Result (Unit {0}) ConnFault
  pub end : ended ≡ end_by sent
  pub written : WritesText (Some (interim_of arrival)) (Some out) (render (away_reply arrival) true) sent

-- of a connection that was turned away the first arrival was answered, or none
abbrev pub IsTurnedAway : List ℕ → List Mark → Ended → List ℕ → Type 0
IsTurnedAway bytes [] ended out = IsUnanswered bytes ended out
IsTurnedAway bytes (mark ∷ []) ended out = AnswersAway bytes mark ended out
IsTurnedAway bytes (mark ∷ another ∷ marks) ended out = ⊥

-- What turning a connection away does with its wire, and what becomes of the connection.
pub record TurnsAway (old new : Wire) (served : Served) : Type 0 where
  pub got : List ℕ
  pub sent : List ℕ
  pub read : Consumes old.left new.left got
  pub wrote : Appends old.written new.written sent
  pub turned : IsTurnedAway got served.marks.items served.ended sent
  pub at_end : IsReadToEnd new.left served.ended
  pub limited : served.ended ≡ Fault fault.ReadLimit → max_reads ≤ length got
  pub fault : IsEndedBy old new served.ended
