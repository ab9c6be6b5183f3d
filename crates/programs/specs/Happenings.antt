-- What programs do, one thing after another, and what they keep then; own rules. Each thing is stated in the words of
-- the contract of the program that does it. Opening and closing a register or an outbox changes nothing that is kept,
-- so it is no happening.
use Rattle.std.specs.Prelude.{◌≡◌, ℕ, ◌≤◌, true, List, [], ◌∷◌, ◌++◌, take, map, Option, Some, None}
use Rattle.key_string.specs.Key.{IsKey}
use Rattle.http_messages.specs.Posting.{IsTarget}
use Rattle.http_messages.specs.Reply.{ReplyParts}
use Rattle.http_messages.specs.Response.{GivesReply}
use Rattle.filing_model.specs.Outbox.{Entry, State, Open, Confirmed, moved, request_of}
use Rattle.filing_model.specs.Prefix.{IsPrefixOf}
use Rattle.filing_model.specs.Request.{Request, firsts}
use Rattle.filing_model.specs.Register.{register, numbers_of}
use Rattle.filing_model.specs.Serving.{keeping, Serves}
use Rattle.filing_model.specs.Stopping.{Crash, IsStopped}
use Rattle.filing_model.specs.declared.served.Mark.{Mark}
use Rattle.filing_world.specs.World.{Outbox, Sent, Output, World, Event, numbered, renewed}
use Rattle.filing_world.specs.Step.{takes, Run}
use Rattle.filing_world.specs.Headline.{start, Holds}
use Rattle.outbox_tables.specs.Entries.{Contents, contents_of, empty}
use Rattle.outbox_core.specs.Entries.{opened, set_state}
use Rattle.filer_client.specs.Exchange.{IsOpenRequest}
use Rattle.gateway_server.specs.Connections.{Connection}
use Rattle.intake_process.specs.Turning.{IsTurnedAway}
use Rattle.intake_process.specs.Turns.{Turn, Served, TurnedAway, connection_of}
use Rattle.programs.specs.Deliveries.{Delivery, IsOf}

-- ---- what is kept

-- what was written on a connection on which bytes of this item came
pub record Answer : Type 0 where
  pub item : ℕ
  pub bytes : List ℕ

-- The requests that the register keeps, what each outbox has, and what went over the network: the items that were
-- written to the intake, for an entry of an outbox or by a stranger, what the intake wrote on each connection that it
-- served, and what was written on those that were turned away. Each list is numbered from 1.
pub record Situation : Type 0 where
  pub requests : List Request
  pub outboxes : List Contents
  pub sent : List Sent
  pub answers : List Answer
  pub refusals : List Answer

-- an empty register, and an outbox without entries for each of these filers
abbrev pub at_first : List (List ℕ) → Situation
at_first filers = record { requests = []; outboxes = map empty filers; sent = []; answers = []; refusals = [] }

-- ---- what a program does

pub data Happening : Type 0 where
  -- `intake serve` served a connection, on which first bytes of an item came
  Serving : Delivery → Connection → Happening
  -- `intake serve` was killed as it served such a connection, before or after it decided a request, and is started
  -- again
  Killing : Delivery → Crash → (marks : List Mark) → (written : List ℕ) → Happening
  -- the register of `intake serve` was closed, and it turned such a connection away
  TurningAway : Delivery → Connection → Happening
  -- `outbox put` put an entry in
  Putting : (outbox : ℕ) (key : List ℕ) (target : Option ℕ) (body : List ℕ) → Happening
  -- `outbox send` wrote this for an entry, its whole request or a first part
  Writing : (outbox id : ℕ) (written : List ℕ) → Happening
  -- `outbox send` read this many first bytes of an answer, and the entry came to this state
  Hearing : (outbox id answer given : ℕ) → State → Happening
  -- `outbox send` read this many first bytes of what was written on a connection that was turned away, and the entry
  -- came to this state
  HearingRefusal : (outbox id refusal given : ℕ) → State → Happening
  -- somebody else wrote this to the intake
  Stranger : (written : List ℕ) → Happening

-- The connection was served after the requests that the register kept, by an intake that keeps at most so many keys.
pub record IsServing (limit : ℕ) (old : Situation) (delivery : Delivery) (connection : Connection)
    (new : Situation) : Type 0 where
  pub came : IsOf old.sent connection delivery
  pub keys : ℕ
  pub few : keys ≤ limit
  pub serves : Serves (keeping keys [] old.requests new.requests) connection.read connection.output.marks
      connection.output.ended connection.output.bytes
  pub becomes : new ≡ record old {
    requests = new.requests;
    answers =
        old.answers ++ record { item = delivery.item; bytes = connection.output.bytes } ∷ [];
  }

-- The intake was killed at a request that was read on the connection, after the requests that the register kept. Those
-- before it were decided and answered, and it was decided too or not.
pub record IsKilling (limit : ℕ) (old : Situation) (delivery : Delivery) (crash : Crash) (marks : List Mark)
    (written : List ℕ) (new : Situation) : Type 0 where
  pub from : Sent
  pub here : numbered old.sent delivery.item ≡ Some from
  pub keys : ℕ
  pub within : keys ≤ limit
  pub stopped : IsStopped (keeping keys [] old.requests new.requests) (take delivery.given from.bytes) crash marks
      written
  pub becomes : new ≡ record old {
    requests = new.requests;
    answers =
        old.answers ++ record { item = delivery.item; bytes = written } ∷ [];
  }

-- The connection was turned away, and nothing is kept of it.
pub record IsTurningAway (old : Situation) (delivery : Delivery) (connection : Connection) (new
    : Situation) : Type 0 where
  pub came : IsOf old.sent connection delivery
  pub turned : IsTurnedAway connection.read connection.output.marks connection.output.ended connection.output.bytes
  pub becomes : new ≡ record old {
    refusals = old.refusals ++ record {
      item = delivery.item;
      bytes =
          connection.output.bytes;
    } ∷ [];
  }

-- what an outbox has, as the world has it
abbrev pub box_of : Contents → Outbox
box_of contents = record { filer = contents.filer; entries = contents.entries; up = true }

-- The entry is the last one of its outbox now, which takes it: its body is not too long, and no other entry has its
-- key.
pub record IsPutting (old : Situation) (outbox : ℕ) (entry : Entry) (new : Situation) : Type 0 where
  pub contents : Contents
  pub here : numbered old.outboxes outbox ≡ Some contents
  pub key : IsKey entry.key
  pub target : IsTarget entry.target
  pub taken : takes (box_of contents) entry ≡ true
  pub becomes : new ≡ record old {
    outboxes =
        renewed old.outboxes outbox (contents_of contents.filer (contents.entries ++ entry ∷ []));
  }

-- A first part of the request of an open entry was written.
pub record IsWriting (old : Situation) (outbox id : ℕ) (written : List ℕ) (new : Situation) : Type 0 where
  pub contents : Contents
  pub here : numbered old.outboxes outbox ≡ Some contents
  pub text : List ℕ
  pub request : IsOpenRequest contents.filer contents.entries id text
  pub part : IsPrefixOf written text
  pub becomes : new ≡ record old { sent = old.sent ++ record { from = Some (outbox, id); bytes = written } ∷ [] }

-- The first bytes of one of these answers, on a connection on which the entry's own request came, give a reply, and the
-- entry, which was open, moved by it.
pub record IsHearing (old : Situation) (answers : List Answer) (outbox id answer given : ℕ) (to : State)
    (new : Situation) : Type 0 where
  pub from : Answer
  pub from_here : numbered answers answer ≡ Some from
  pub item : Sent
  pub item_here : numbered old.sent from.item ≡ Some item
  pub sender : item.from ≡ Some (outbox, id)
  pub contents : Contents
  pub here : numbered old.outboxes outbox ≡ Some contents
  pub text : List ℕ
  pub request : IsOpenRequest contents.filer contents.entries id text
  pub reply : ReplyParts
  pub gives : GivesReply (take given from.bytes) reply
  pub moves : to ≡ moved Open reply
  pub becomes : new ≡ record old {
    outboxes =
        renewed old.outboxes outbox (contents_of contents.filer (set_state contents.entries id to));
  }

-- what one happening makes of what is kept
abbrev pub Makes : ℕ → Situation → Happening → Situation → Type 0
Makes limit old (Serving delivery connection) new = IsServing limit old delivery connection new
Makes limit old (Killing delivery crash marks written) new = IsKilling limit old delivery crash marks written new
Makes limit old (TurningAway delivery connection) new = IsTurningAway old delivery connection new
Makes limit old (Putting outbox key target body) new = IsPutting old outbox (opened key target body) new
Makes limit old (Writing outbox id written) new = IsWriting old outbox id written new
Makes limit old (Hearing outbox id answer given to) new = IsHearing old old.answers outbox id answer given to new
Makes limit old (HearingRefusal outbox id refusal given to) new =
    IsHearing old old.refusals outbox id refusal given to new
Makes limit old (Stranger written) new =
    new ≡ record old { sent = old.sent ++ record { from = None; bytes = written } ∷ [] }

-- happenings one after another, whichever program each is of
abbrev pub Happen : ℕ → Situation → List Happening → Situation → Type 0
Happen limit old [] new = new ≡ old
Happen limit old (happening ∷ happenings) new =
    (between : Situation) × Makes limit old happening between × Happen limit between happenings new

-- ---- the world that is kept so

-- what was written are first parts of what was sent
abbrev pub AreWrittenOf : List Sent → List Sent → Type 0
AreWrittenOf [] [] = Unit {0}
AreWrittenOf (written ∷ more) (sent ∷ items) =
    (written.from ≡ sent.from) × IsPrefixOf written.bytes sent.bytes × AreWrittenOf more items
AreWrittenOf _ _ = ⊥

-- what was answered is an output
abbrev pub AreAnswersOf : List Answer → List Output → Type 0
AreAnswersOf [] [] = Unit {0}
AreAnswersOf (answer ∷ answers) (output ∷ outputs) =
    (output.item ≡ answer.item) × (output.bytes ≡ answer.bytes) × AreAnswersOf answers outputs
AreAnswersOf _ _ = ⊥

-- The register keeps the first of all requests that the world completed, the outboxes are the same, and so is what was
-- written to the intake and what it wrote on the connections that it served.
pub record IsKept (limit : ℕ) (situation : Situation) (world : World) : Type 0 where
  pub limit_is : world.limit ≡ limit
  pub requests : situation.requests ≡ firsts world.done
  pub outboxes : world.outboxes ≡ map box_of situation.outboxes
  pub sent : AreWrittenOf situation.sent world.sent
  pub answers : AreAnswersOf situation.answers world.outputs
  pub up : world.up ≡ true

-- Events lead from a start to a world that is kept so, and the headline holds of it.
pub record IsReached (filers : List (List ℕ)) (limit : ℕ) (situation : Situation) : Type 0 where
  pub world : World
  pub events : List Event
  pub run : Run (start filers limit) events world
  pub kept : IsKept limit situation world
  pub holds : Holds world

-- Each entry that counts as confirmed is in the register exactly once, under the number that its reply gave.
abbrev pub AreRegistered : Situation → Type 0
AreRegistered situation =
    (outbox id number : ℕ) (contents : Contents) (entry : Entry) → numbered situation.outboxes outbox ≡ Some contents
    → numbered contents.entries id ≡ Some entry
    → entry.state ≡ Confirmed number → numbers_of (request_of contents.filer entry) (register situation.requests)
    ≡ number ∷ []

-- ---- a run of `intake serve`

-- what answering these connections makes, one after another
abbrev pub happenings_of : List Delivery → List Turn → List Happening
happenings_of [] turns = []
happenings_of (delivery ∷ deliveries) [] = []
happenings_of (delivery ∷ deliveries) (Served told ∷ turns) =
    Serving delivery (connection_of told) ∷ happenings_of deliveries turns
happenings_of (delivery ∷ deliveries) (TurnedAway told ∷ turns) =
    TurningAway delivery (connection_of told) ∷ happenings_of deliveries turns

-- Connections were answered, one after another: the register keeps these requests, and the outboxes and what they wrote
-- are as before.
pub record TurnsHappen (limit : ℕ) (old : Situation) (deliveries : List Delivery) (turns : List Turn)
    (after : List Request) (new : Situation) : Type 0 where
  pub happen : Happen limit old (happenings_of deliveries turns) new
  pub requests : new.requests ≡ after
  pub outboxes : new.outboxes ≡ old.outboxes
  pub sent : new.sent ≡ old.sent
