-- What comes; own rules.
use Rattle.std.specs.Prelude.{◌≡◌, ◌≤◌, false, [], IfSome, length}
use Rattle.http_messages.specs.Head.{max_body_len}
use Rattle.http_messages.specs.Message.{Arrival, Read, Refused as RefusedArrival}
use Rattle.connection_hall.specs.declared.ready.Arrived.{Arrived}
use Rattle.connection_hall.specs.declared.ready.Arrived.TheVariants.{Request, Refused}
use Rattle.connection_hall.specs.declared.stream.Stream.{Ghosts}

-- nothing was read of the stream or written to it, if that is known, and its end was not found
pub record IsFresh {S N : Type 0} (s : Ghosts S N) (stream : S) : Type 0 where
  pub came : IfSome (s.came stream) (λ bytes. bytes ≡ [])
  pub went : IfSome (s.went stream) (λ bytes. bytes ≡ [])
  pub goes_on : s.is_ended stream ≡ false

-- the arrival that is lent
abbrev pub arrival_seen : Arrived → Arrival
arrival_seen (Request request) = Read (record { head = request.head; body = request.body.now })
arrival_seen (Refused refusal) = RefusedArrival refusal

-- the body of a request is no longer than may be
abbrev pub HasShortBody : Arrived → Type 0
HasShortBody (Request request) = length request.body.now ≤ max_body_len
HasShortBody (Refused refusal) = Unit {0}
