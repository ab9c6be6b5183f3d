-- Programs that run beside each other: what each does, in one order that keeps each one's own; own rules.
use Rattle.std.specs.Prelude.{◌≡◌, ◌⊎◌, ℕ, ◌==◌, ◌≤◌, List, [], ◌∷◌, ◌++◌, take, Option, Some, None, if◌then◌else◌}
use Rattle.http_messages.specs.Reply.{ReplyParts}
use Rattle.http_messages.specs.Response.{GivesReply}
use Rattle.filing_model.specs.Request.{Request}
use Rattle.filing_model.specs.Serving.{keeping, Serves}
use Rattle.filing_model.specs.Stopping.{Crash, IsStopped}
use Rattle.filing_model.specs.declared.served.Mark.{Mark}
use Rattle.filing_world.specs.World.{Sent, numbered}
use Rattle.gateway_server.specs.Connections.{Connection}
use Rattle.intake_process.specs.Turning.{IsTurnedAway}
use Rattle.outbox_tables.specs.Entries.{Contents}
use Rattle.programs.specs.Deliveries.{Delivery, IsOf}
use Rattle.programs.specs.Happenings.{Answer, Situation}
use Rattle.programs.specs.Fronts.{Passing, HappenBehind, IsFront}
use Rattle.program_runs.specs.Deeds.{Deed, Added, Wrote, Heard, Asked, AreDone}

-- what a run of `intake serve` did with a connection
pub data Service : Type 0 where
  -- it was served
  Answered : Connection → Service
  -- it was turned away, while the register was closed
  Away : Connection → Service
  -- the run was killed as it served a connection on which this was read, and this was written
  Killed : (read : List ℕ) → Crash → (marks : List Mark) → (written : List ℕ) → Service

-- each was served after the requests that the one before it left, by an intake that keeps at most so many keys
abbrev pub InTurn : ℕ → List Request → List Service → List Request → Type 0
InTurn limit before [] after = after ≡ before
InTurn limit before (Answered connection ∷ services) after =
    (keys : ℕ) × (between : List Request) × (keys ≤ limit)
    × Serves (keeping keys [] before between) connection.read connection.output.marks connection.output.ended
    connection.output.bytes
    × InTurn limit between services after
InTurn limit before (Away connection ∷ services) after =
    IsTurnedAway connection.read connection.output.marks connection.output.ended connection.output.bytes
    × InTurn limit before services after
InTurn limit before (Killed read crash marks written ∷ services) after =
    (keys : ℕ) × (between : List Request) × (keys ≤ limit)
    × IsStopped (keeping keys [] before between) read crash marks written × InTurn limit between services after

-- what one program did, or somebody else
pub data Act : Type 0 where
  -- a run of `outbox` with the outbox of this number
  OfOutbox : (outbox : ℕ) → Deed → Act
  -- a run of `intake serve`, on a connection on which this came
  OfIntake : Delivery → Service → Act
  -- somebody else wrote this to the intake
  OfStranger : (written : List ℕ) → Act

-- what each program did, in its own order
abbrev pub deeds_of : ℕ → List Act → List Deed
deeds_of outbox [] = []
deeds_of outbox (OfOutbox other deed ∷ acts) =
    if other == outbox then deed ∷ deeds_of outbox acts else deeds_of outbox acts
deeds_of outbox (OfIntake delivery service ∷ acts) = deeds_of outbox acts
deeds_of outbox (OfStranger written ∷ acts) = deeds_of outbox acts

abbrev pub services_of : List Act → List Service
services_of [] = []
services_of (OfOutbox outbox deed ∷ acts) = services_of acts
services_of (OfIntake delivery service ∷ acts) = service ∷ services_of acts
services_of (OfStranger written ∷ acts) = services_of acts

-- ---- the network

-- what went over it
pub record Network : Type 0 where
  pub sent : List Sent
  pub answers : List Answer
  pub refusals : List Answer

abbrev pub network_of : Situation → Network
network_of situation =
    record { sent = situation.sent; answers = situation.answers; refusals = situation.refusals }

abbrev pub with_sent : Network → Option (ℕ × ℕ) → List ℕ → Network
with_sent old from bytes = record old { sent = old.sent ++ record { from = from; bytes = bytes } ∷ [] }

abbrev pub with_answer : Network → Delivery → List ℕ → Network
with_answer old delivery written =
    record old { answers = old.answers ++ record { item = delivery.item; bytes = written } ∷ [] }

-- the network after an act
abbrev pub carries : Network → Act → Network
carries old (OfOutbox outbox (Added key target body)) = old
carries old (OfOutbox outbox (Wrote id written)) = with_sent old (Some (outbox, id)) written
carries old (OfOutbox outbox (Heard id asks read to)) = old
carries old (OfOutbox outbox (Asked written)) = with_sent old None written
carries old (OfIntake delivery (Answered connection)) = with_answer old delivery connection.output.bytes
carries old (OfIntake delivery (Killed read crash marks written)) = with_answer old delivery written
carries old (OfIntake delivery (Away connection)) =
    record old { refusals = old.refusals ++ record { item = delivery.item; bytes = connection.output.bytes } ∷ [] }
carries old (OfStranger written) = with_sent old None written

-- What was read are first bytes of one of these answers, on a connection on which the entry's own request came.
pub record IsGiven (network : Network) (answers : List Answer) (outbox id : ℕ) (read : List ℕ) : Type 0 where
  pub answer : ℕ
  pub given : ℕ
  pub from : Answer
  pub from_here : numbered answers answer ≡ Some from
  pub item : Sent
  pub item_here : numbered network.sent from.item ≡ Some item
  pub sender : item.from ≡ Some (outbox, id)
  pub first : read ≡ take given from.bytes

-- a situation with this network
abbrev pub seen_on : Network → Situation
seen_on network =
    record {
      requests = [];
      outboxes = [];
      sent = network.sent;
      answers = network.answers;
      refusals = network.refusals;
    }

-- A front gave it back for this request: the intake's answer to the request, or what settles nothing.
abbrev pub IsGivenBack : Network → Request → List ℕ → Type 0
IsGivenBack network asks read = (reply : ReplyParts) → GivesReply read reply → IsFront (seen_on network) asks reply

-- What a program read was written to it. The intake reads first bytes of what was sent. An outbox reads first bytes of
-- what the intake wrote on the connection that it made, or what a front gave it back.
abbrev pub IsCarried : Network → Act → Type 0
IsCarried network (OfOutbox outbox (Heard id asks read to)) =
    IsGiven network network.answers outbox id read
    ⊎ (IsGiven network network.refusals outbox id read ⊎ IsGivenBack network asks read)
IsCarried network (OfOutbox outbox deed) = Unit {0}
IsCarried network (OfIntake delivery (Answered connection)) = IsOf network.sent connection delivery
IsCarried network (OfIntake delivery (Away connection)) = IsOf network.sent connection delivery
IsCarried network (OfIntake delivery (Killed read crash marks written)) =
    (from : Sent) × (numbered network.sent delivery.item ≡ Some from) × (read ≡ take delivery.given from.bytes)
IsCarried network (OfStranger written) = Unit {0}

abbrev pub AreCarried : Network → List Act → Type 0
AreCarried network [] = Unit {0}
AreCarried network (act ∷ acts) = IsCarried network act × AreCarried (carries network act) acts

-- ---- all of them

-- Each outbox that has a deed among these is there, its deeds lead from what it has to these contents, and the
-- connections were served in turn after the requests that are kept.
pub record DoTogether (limit : ℕ) (old : Situation) (acts : List Act) (last : ℕ → Contents) (after : List Request)
    : Type 0 where
  pub outboxes : (outbox : ℕ) (it : Contents) → numbered old.outboxes outbox ≡ Some it
      → AreDone it (deeds_of outbox acts) (last outbox)
  pub none : (outbox : ℕ) → numbered old.outboxes outbox ≡ None → deeds_of outbox acts ≡ []
  pub in_turn : InTurn limit old.requests (services_of acts) after

-- The acts happened, behind fronts or without, and each program keeps what it did.
pub record TogetherHappen (limit : ℕ) (old : Situation) (last : ℕ → Contents) (after : List Request) : Type 0 where
  pub passings : List Passing
  pub new : Situation
  pub happen : HappenBehind limit old passings new
  pub requests : new.requests ≡ after
  pub outboxes : (outbox : ℕ) (it : Contents) → numbered old.outboxes outbox ≡ Some it
      → numbered new.outboxes outbox ≡ Some (last outbox)
  pub none : (outbox : ℕ) → numbered old.outboxes outbox ≡ None → numbered new.outboxes outbox ≡ None
