-- Fronts between the outboxes and the intake, and what programs do through them; own rules. A front is whatever passes
-- messages on: nginx, stunnel, two of them. To the intake it is a stranger, which may write anything, as often and in
-- whatever order it likes. Only what it gives back to an outbox has to be an answer of the intake.
--
-- A front may keep its connections to the intake open, so that one carries messages of many filers, one behind another.
-- Such a connection is as many items, one for each of its pieces, and each piece is served and answered by itself
-- (`Kept`). So a reply is given back for the piece that it answers, whatever came before that on the connection.
use Rattle.std.specs.Prelude.{◌≡◌, ◌⊎◌, ℕ, Bool, false, not, List, [], ◌∷◌, length, map, Some, if◌then◌else◌}
use Rattle.http_messages.specs.Head.{closes}
use Rattle.http_messages.specs.Message.{BeginsRequest, SpellsRequest, awaits}
use Rattle.http_messages.specs.Reply.{ReplyParts, render}
use Rattle.http_messages.specs.Request.{Request as Message}
use Rattle.http_messages.specs.Response.{GivesReply}
use Rattle.filing_model.specs.declared.served.Ended.{Ended}
use Rattle.filing_model.specs.declared.served.Ended.TheVariants.{Closed, InputEnded}
use Rattle.filing_model.specs.declared.served.Mark.TheVariants.{Done}
use Rattle.filing_model.specs.Answer.{answer}
use Rattle.filing_model.specs.Outbox.{State, Open, Confirmed, moved, request_of, bytes_of}
use Rattle.filing_model.specs.Reply.{reply_of}
use Rattle.filing_model.specs.Request.{Request, firsts}
use Rattle.filing_model.specs.Text.{FileReport, route}
use Rattle.filing_world.specs.World.{Sent, World, Event, numbered, renewed}
use Rattle.filing_world.specs.Step.{Run}
use Rattle.filing_world.specs.Headline.{start, Holds}
use Rattle.outbox_tables.specs.Entries.{Contents, contents_of}
use Rattle.outbox_core.specs.Entries.{set_state}
use Rattle.filer_client.specs.Exchange.{IsOpenRequest}
use Rattle.programs.specs.Happenings.{Answer, Situation, Happening, Serving, Putting, Writing, Stranger}
use Rattle.programs.specs.Happenings.{at_first, Makes, Happen, box_of}

-- The intake answered a message that files this request, whoever wrote it and on whichever connection, and the reply
-- has the status and the content of that answer. All other fields of the message and of the reply are free, and so is
-- what follows either.
pub record IsPassedOn (situation : Situation) (r : Request) (reply : ReplyParts) : Type 0 where
  pub answer : ℕ
  pub from : Answer
  pub from_here : numbered situation.answers answer ≡ Some from
  pub item : Sent
  pub item_here : numbered situation.sent from.item ≡ Some item
  pub message : Message
  pub message_len : ℕ
  pub begins : BeginsRequest item.bytes message message_len
  pub asks : route message ≡ FileReport r
  pub told : ReplyParts
  pub gives : GivesReply from.bytes told
  pub status : reply.status ≡ told.status
  pub content : reply.content ≡ told.content

-- What a front may give back for a request: the intake's answer to it, or what settles nothing.
abbrev pub IsFront : Situation → Request → ReplyParts → Type 0
IsFront situation r reply = IsPassedOn situation r reply ⊎ (moved Open reply ≡ Open)

-- The bytes that a front gave an outbox hold a reply, and the entry, which was open, moved by it.
pub record IsHearingThrough (old : Situation) (outbox id : ℕ) (bytes : List ℕ) (to : State) (new
    : Situation) : Type 0 where
  pub contents : Contents
  pub here : numbered old.outboxes outbox ≡ Some contents
  pub text : List ℕ
  pub request : IsOpenRequest contents.filer contents.entries id text
  pub reply : ReplyParts
  pub gives : GivesReply bytes reply
  pub front : IsFront old (request_of contents.filer request.entry) reply
  pub moves : to ≡ moved Open reply
  pub becomes : new ≡ record old {
    outboxes =
        renewed old.outboxes outbox (contents_of contents.filer (set_state contents.entries id to));
  }

-- what happens where there may be fronts
pub data Passing : Type 0 where
  -- what happens without one; what a front writes to the intake is a stranger's
  Direct : Happening → Passing
  -- `outbox send` read these bytes, which a front gave it, and the entry came to this state
  HearingThrough : (outbox id : ℕ) (bytes : List ℕ) → State → Passing

abbrev pub Passes : ℕ → Situation → Passing → Situation → Type 0
Passes limit old (Direct happening) new = Makes limit old happening new
Passes limit old (HearingThrough outbox id bytes to) new = IsHearingThrough old outbox id bytes to new

-- such things one after another
abbrev pub HappenBehind : ℕ → Situation → List Passing → Situation → Type 0
HappenBehind limit old [] new = new ≡ old
HappenBehind limit old (passing ∷ passings) new =
    (between : Situation) × Passes limit old passing between × HappenBehind limit between passings new

-- Happenings without a front keep the same requests and the same outboxes.
pub record IsKeptWithout (filers : List (List ℕ)) (limit : ℕ) (situation : Situation) : Type 0 where
  pub happenings : List Happening
  pub plain : Situation
  pub happen : Happen limit (at_first filers) happenings plain
  pub requests : plain.requests ≡ situation.requests
  pub outboxes : plain.outboxes ≡ situation.outboxes

-- Events lead from a start to a world with the same requests and the same outboxes, and the headline holds of it.
pub record IsReachedBehind (filers : List (List ℕ)) (limit : ℕ) (situation : Situation) : Type 0 where
  pub world : World
  pub events : List Event
  pub run : Run (start filers limit) events world
  pub requests : situation.requests ≡ firsts world.done
  pub outboxes : world.outboxes ≡ map box_of situation.outboxes
  pub holds : Holds world

-- ---- a worked list

-- What a front may make of a request: another spelling of a message that files it, behind which it closes the
-- connection or keeps it open.
pub record IsRewritten (r : Request) (bytes : List ℕ) (keeps : Bool) : Type 0 where
  pub message : Message
  pub spells : SpellsRequest bytes message
  pub open_is : closes message.head ≡ not keeps
  pub silent : awaits message.head ≡ false
  pub files : route message ≡ FileReport r

-- what a front may give back of this reply: another spelling of a reply with its status and content
pub record IsGivenBack (answer : ReplyParts) (bytes : List ℕ) : Type 0 where
  pub reply : ReplyParts
  pub gives : GivesReply bytes reply
  pub status : reply.status ≡ answer.status
  pub content : reply.content ≡ answer.content

-- what the intake writes to the first request of all
abbrev pub first_answer : Request → Bool → List ℕ
first_answer r keeps = render (reply_of (answer [] r)) (not keeps)

-- how its piece of the connection ends
abbrev pub piece_end : Bool → Ended
piece_end keeps = if keeps then InputEnded else Closed

-- the first entry of the one outbox is written to a front, which rewrites it, and its answer is given back
abbrev pub passed_once : Request → Bool → List ℕ → List ℕ → List Passing
passed_once r keeps rewritten back =
    Direct (Putting 1 r.key r.target r.body) ∷ Direct (Writing 1 1 (bytes_of r)) ∷ Direct (Stranger rewritten)
    ∷ Direct (Serving (record { item = 2; given = length rewritten }) (record {
      read = rewritten;
      output = record { marks = Done ∷ []; ended = piece_end keeps; bytes = first_answer r keeps };
    })) ∷ HearingThrough 1 1 back (Confirmed 1) ∷ []

-- That may happen, and then the register keeps this request alone, and the entry is confirmed under its number.
pub record MayConfirm (limit : ℕ) (r : Request) (passings : List Passing) : Type 0 where
  pub situation : Situation
  pub happen : HappenBehind limit (at_first (r.filer ∷ [])) passings situation
  pub requests : situation.requests ≡ r ∷ []
  pub outboxes : situation.outboxes ≡ contents_of r.filer (record {
    key = r.key;
    target = r.target;
    body = r.body;
    state = Confirmed 1;
  } ∷ []) ∷ []
