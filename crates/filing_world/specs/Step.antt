-- What each event may do to the world.
use Rattle.std.specs.Prelude.{◌≡◌, ℕ, ◌≤◌, ◌⊎◌, ◌&&◌, Bool, true, false, not, List, [], ◌∷◌, ◌++◌, length, take, Option}
use Rattle.std.specs.Prelude.{Some, None, nat_le, bytes_eq, if◌then◌else◌}
use Rattle.std.specs.List.{list_any}
use Rattle.key_string.specs.Key.{IsKey}
use Rattle.http_messages.specs.Head.{max_body_len}
use Rattle.http_messages.specs.Message.{Arrival}
use Rattle.http_messages.specs.Reads.{max_reads}
use Rattle.http_messages.specs.Reply.{ReplyParts}
use Rattle.http_messages.specs.Response.{GivesReply}
use Rattle.filing_model.specs.declared.served.Mark.{Mark}
use Rattle.filing_model.specs.declared.served.Ended.{Ended}
use Rattle.http_messages.specs.Posting.{IsTarget}
use Rattle.filing_model.specs.Outbox.{State, Open, moved, Entry, request_of, bytes_of}
use Rattle.filing_model.specs.Stopping.{Crash, No, Before, After, ServesUntil}
use Rattle.filing_model.specs.Text.{completed}
use Rattle.filing_world.specs.World.{Outbox, Sent, Output, World, Event, Put, Send, Stranger, Deliver, Hand}
use Rattle.filing_world.specs.World.{RestartServer, RestartOutbox, numbered, renewed}

-- whether an end goes on without a stop
abbrev pub is_no : Crash → Bool
is_no No = true
is_no (Before j) = false
is_no (After j) = false

-- ---- the ends

-- whether an outbox takes an entry: not with a body that is too long, nor under a key that is used
abbrev pub takes : Outbox → Entry → Bool
takes box entry = nat_le (length entry.body) max_body_len && not (list_any (λ e. bytes_eq e.key entry.key) box.entries)

-- the outbox with this entry added, if it takes it
abbrev pub with_entry : Outbox → Entry → Outbox
with_entry box entry = if takes box entry then record box { entries = box.entries ++ entry ∷ [] } else box

-- a report is put into an outbox that is up
pub record Puts (old : World) (outbox : ℕ) (entry : Entry) (new : World) : Type 0 where
  pub is_key : IsKey entry.key
  pub is_target : IsTarget entry.target
  pub box : Outbox
  pub here : numbered old.outboxes outbox ≡ Some box
  pub up : box.up ≡ true
  pub becomes : new ≡ record old { outboxes = renewed old.outboxes outbox (with_entry box entry) }

-- the request of an entry is sent, whatever its state
pub record Sends (old : World) (outbox entry : ℕ) (new : World) : Type 0 where
  pub box : Outbox
  pub here : numbered old.outboxes outbox ≡ Some box
  pub up : box.up ≡ true
  pub what : Entry
  pub there : numbered box.entries entry ≡ Some what
  pub becomes : new ≡ record old {
    sent = old.sent ++ record {
      from = Some (outbox, entry);
      bytes =
          bytes_of (request_of box.filer what);
    } ∷ [];
  }

-- ---- a delivery

-- The intake, which is up, is given the first bytes of an item, serves them, and may stop. What was completed and
-- written is added.
pub record Delivers (old : World) (item given : ℕ) (crash : Crash) (new : World) : Type 0 where
  pub up : old.up ≡ true
  pub from : Sent
  pub here : numbered old.sent item ≡ Some from
  pub arrivals : List Arrival
  pub marks : List Mark
  pub ended : Option Ended
  pub out : List ℕ
  pub serves : ServesUntil old.limit old.done (take given from.bytes) crash arrivals marks ended out
  pub becomes : new ≡ record old {
    done = old.done ++ completed arrivals marks;
    outputs =
        old.outputs ++ record {
          item = item;
          given = length (take given from.bytes);
          before = length old.done;
          marks =
              marks;
          ended = ended;
          bytes = out;
        } ∷ [];
    up = is_no crash;
  }

-- ---- a reply handed over

-- what an outbox reads as a reply: nothing if it stops before, or if the bytes give no reply or are too many to read
abbrev pub Hears : List ℕ → Crash → Option ReplyParts → Type 0
Hears bytes No (Some reply) = GivesReply bytes reply
Hears bytes (After j) (Some reply) = GivesReply bytes reply
Hears bytes (Before j) (Some reply) = ⊥
Hears bytes No None = ((reply : ReplyParts) → ¬ GivesReply bytes reply) ⊎ (max_reads ≤ length bytes)
Hears bytes (After j) None = ((reply : ReplyParts) → ¬ GivesReply bytes reply) ⊎ (max_reads ≤ length bytes)
Hears bytes (Before j) None = Unit {0}

-- the state of an entry after what was read
abbrev pub heard_by : State → Option ReplyParts → State
heard_by state None = state
heard_by state (Some reply) = moved state reply

-- the outbox after what was read for an entry; it is up unless it stopped
abbrev pub box_after : Outbox → ℕ → Entry → Option ReplyParts → Crash → Outbox
box_after box number entry heard crash =
    record box {
      entries = renewed box.entries number (record entry { state = heard_by entry.state heard });
      up = is_no crash;
    }

-- The first bytes of an output are handed to the entry whose request was delivered, and what they say moves its state
-- alone.
pub record Hands (old : World) (output given : ℕ) (crash : Crash) (new : World) : Type 0 where
  pub from : Output
  pub here : numbered old.outputs output ≡ Some from
  pub item : Sent
  pub item_here : numbered old.sent from.item ≡ Some item
  pub outbox : ℕ
  pub number : ℕ
  pub sender : item.from ≡ Some (outbox, number)
  pub box : Outbox
  pub box_here : numbered old.outboxes outbox ≡ Some box
  pub up : box.up ≡ true
  pub entry : Entry
  pub entry_here : numbered box.entries number ≡ Some entry
  pub heard : Option ReplyParts
  pub hears : Hears (take given from.bytes) crash heard
  pub becomes : new ≡ record old { outboxes = renewed old.outboxes outbox (box_after box number entry heard crash) }

-- an outbox is up again, with the entries that it had
pub record Restarts (old : World) (outbox : ℕ) (new : World) : Type 0 where
  pub box : Outbox
  pub here : numbered old.outboxes outbox ≡ Some box
  pub becomes : new ≡ record old { outboxes = renewed old.outboxes outbox (record box { up = true }) }

-- ---- all events

-- what the world may be after an event
abbrev pub Step : World → Event → World → Type 0
Step old (Put outbox key target body) new =
    Puts old outbox (record { key = key; target = target; body = body; state = Open }) new
Step old (Send outbox entry) new = Sends old outbox entry new
Step old (Stranger bytes) new = new ≡ record old { sent = old.sent ++ record { from = None; bytes = bytes } ∷ [] }
Step old (Deliver item given crash) new = Delivers old item given crash new
Step old (Hand output given crash) new = Hands old output given crash new
Step old RestartServer new = new ≡ record old { up = true }
Step old (RestartOutbox outbox) new = Restarts old outbox new

-- one event after another
abbrev pub Run : World → List Event → World → Type 0
Run old [] new = new ≡ old
Run old (event ∷ events) new = (between : World) × Step old event between × Run between events new

-- ---- what can't be played

-- there is no such end, or it is down
abbrev pub IsAway : List Outbox → ℕ → Type 0
IsAway outboxes outbox = (box : Outbox) → numbered outboxes outbox ≡ Some box → box.up ≡ false

-- A number names nothing, an output answers a stranger, or an end that the event needs is down.
abbrev pub CannotPlay : World → Event → Type 0
CannotPlay world (Put outbox key target body) = IsAway world.outboxes outbox
CannotPlay world (Send outbox entry) =
    IsAway world.outboxes outbox ⊎ ((box : Outbox) → numbered world.outboxes outbox ≡ Some box
    → numbered box.entries entry ≡ None)
CannotPlay world (Stranger bytes) = ⊥
CannotPlay world (Deliver item given crash) = (world.up ≡ false) ⊎ (numbered world.sent item ≡ None)
CannotPlay world (Hand output given crash) =
    (numbered world.outputs output ≡ None)
    ⊎ ((from : Output) × (item : Sent) × (numbered world.outputs output ≡ Some from)
    × (numbered world.sent from.item ≡ Some item)
    × ((item.from ≡ None) ⊎ ((outbox : ℕ) × (entry : ℕ) × (item.from ≡ Some (outbox, entry))
    × IsAway world.outboxes outbox)))
CannotPlay world RestartServer = ⊥
CannotPlay world (RestartOutbox outbox) = numbered world.outboxes outbox ≡ None
