-- What the laws over every step and every run say.
use Rattle.std.specs.Prelude.{◌≡◌, ◌≢◌, ◌⊎◌, ◌↔◌, ◌<◌, ◌≤◌, ◌-◌, ℕ, List, Option, [], ◌∷◌, ◌++◌, length, take, min, max}
use Rattle.std.specs.Prelude.{true, Some, None}
use Rattle.key_string.specs.Key.{IsKey}
use Rattle.http_messages.specs.Message.{Arrival}
use Rattle.http_messages.specs.Posting.{IsTarget}
use Rattle.filing_model.specs.Request.{Request}
use Rattle.filing_model.specs.Outbox.{Open, Entry, IsSendable, request_of, bytes_of}
use Rattle.filing_model.specs.Stopping.{Crash, No, Before, After, ServesUntil}
use Rattle.filing_model.specs.Text.{completed}
use Rattle.filing_world.specs.World.{Outbox, Sent, Output, World, Put, Send, Stranger, Deliver, Hand, RestartServer}
use Rattle.filing_world.specs.World.{RestartOutbox, numbered}
use Rattle.filing_world.specs.Step.{Step, CannotPlay}

-- under its numbers the entry is still there, with its key and body, and with its state if that was settled
pub record Remains (world : World) (outbox number : ℕ) (filer : List ℕ) (entry : Entry) : Type 0 where
  pub box : Outbox
  pub here : numbered world.outboxes outbox ≡ Some box
  pub filer' : box.filer ≡ filer
  pub still : Entry
  pub there : numbered box.entries number ≡ Some still
  pub key : still.key ≡ entry.key
  pub target : still.target ≡ entry.target
  pub body : still.body ≡ entry.body
  pub settled : entry.state ≢ Open → still.state ≡ entry.state

-- at most n requests were completed since
pub record AddsAtMost (n : ℕ) (old new : World) : Type 0 where
  pub more : List Request
  pub adds : new.done ≡ old.done ++ more
  pub few : length more ≤ n

-- The output is added, and describes its delivery: of which item, how many bytes of it came, after how many completed
-- requests, and what serving these bytes marked, wrote and ended with. What it marked as completed is added, and
-- nothing else.
pub record IsDelivered (old : World) (item given : ℕ) (crash : Crash) (from : Sent) (output : Output)
    (new : World) : Type 0 where
  pub adds : new.outputs ≡ old.outputs ++ output ∷ []
  pub which : output.item ≡ item
  pub came : output.given ≡ min given (length from.bytes)
  pub after : output.before ≡ length old.done
  pub arrivals : List Arrival
  pub serves : ServesUntil old.limit old.done (take output.given from.bytes) crash arrivals output.marks output.ended
      output.bytes
  pub completes : new.done ≡ old.done ++ completed arrivals output.marks

-- the output answers what the entry sent
pub record IsAnswerTo (world : World) (output : ℕ) (from : Output) (outbox number : ℕ) : Type 0 where
  pub here : numbered world.outputs output ≡ Some from
  pub item : Sent
  pub item_here : numbered world.sent from.item ≡ Some item
  pub sender : item.from ≡ Some (outbox, number)

-- nothing can be put into the outbox, sent from it or handed to it
pub record IsDown (world : World) (outbox : ℕ) : Type 0 where
  pub puts : (key : List ℕ) (target : Option ℕ) (body : List ℕ) → CannotPlay world (Put outbox key target body)
  pub sends : (entry : ℕ) → CannotPlay world (Send outbox entry)
  pub hands : (output given number : ℕ) (crash : Crash) (from : Output) → IsAnswerTo world output from outbox number
      → CannotPlay world (Hand output given crash)

-- What can be played in a world if the end that it needs is up.
pub record CanPlay (old : World) : Type 0 where
  -- a key, a target and a body are put
  pub puts : (outbox : ℕ) (box : Outbox) (key : List ℕ) (target : Option ℕ) (body : List ℕ)
      → numbered old.outboxes outbox ≡ Some box → box.up ≡ true → IsKey key → IsTarget target
      → (new : World) × Step old (Put outbox key target body) new
  -- a request is sent for any entry, whatever its state
  pub sends : (outbox number : ℕ) (box : Outbox) (entry : Entry) → numbered old.outboxes outbox ≡ Some box
      → box.up ≡ true → numbered box.entries number ≡ Some entry
      → (new : World) × Step old (Send outbox number) new
      × (new.sent ≡ old.sent ++ record {
        from = Some (outbox, number);
        bytes =
            bytes_of (request_of box.filer entry);
      } ∷ [])
  -- a stranger sends any bytes
  pub stranger : (bytes : List ℕ) → (new : World) × Step old (Stranger bytes) new
      × (new.sent ≡ old.sent ++ record { from = None; bytes = bytes } ∷ [])
  -- an end that is down, or up, is restarted
  pub server : (new : World) × Step old RestartServer new × (new.up ≡ true)
  pub outbox : (outbox : ℕ) (box : Outbox) → numbered old.outboxes outbox ≡ Some box
      → (new : World) × Step old (RestartOutbox outbox) new
      × (numbered new.outboxes outbox ≡ Some (record box { up = true }))

-- What a delivery of so many bytes of an item completes.
pub record CompletesAtMost (old new : World) (item given : ℕ) : Type 0 where
  -- of an entry's request that one request, or nothing
  pub of_an_entry : (crash : Crash) (from : Sent) (r : Request) → numbered old.sent item ≡ Some from → IsSendable r
      → from.bytes ≡ bytes_of r → Step old (Deliver item given crash) new
      → (new.done ≡ old.done) ⊎ (new.done ≡ old.done ++ r ∷ [])
  -- and nothing if it is cut before its last byte
  pub of_a_cut : (crash : Crash) (from : Sent) (r : Request) → numbered old.sent item ≡ Some from → IsSendable r
      → from.bytes ≡ bytes_of r → given < length from.bytes → Step old (Deliver item given crash) new
      → new.done ≡ old.done
  -- of any bytes nothing, if the intake stops before the first arrival
  pub before_the_first : (j : ℕ) → j ≤ 1 → Step old (Deliver item given (Before j)) new → new.done ≡ old.done
  -- at most the arrivals before the one that it stops before
  pub before : (j : ℕ) → Step old (Deliver item given (Before j)) new → AddsAtMost (j - 1) old new
  -- and at most one more if it stops after one
  pub after : (j : ℕ) → Step old (Deliver item given (After j)) new → AddsAtMost (max 1 j) old new

-- Which end is up after it was given so many bytes, and what it takes while it is down.
pub record IsUpUnlessStopped (old new : World) (given : ℕ) (crash : Crash) : Type 0 where
  -- the intake is up exactly if it was not stopped
  pub intake : (item : ℕ) → Step old (Deliver item given crash) new → (new.up ≡ true) ↔ (crash ≡ No)
  -- while it is down it takes no delivery
  pub delivers : (item : ℕ) → Step old (Deliver item given crash) new → crash ≢ No → (another more : ℕ) (again : Crash)
      → CannotPlay new (Deliver another more again)
  -- an outbox that was handed a reply is up exactly if it was not stopped
  pub outbox : (output outbox number : ℕ) (from : Output) (box : Outbox) → IsAnswerTo old output from outbox number
      → Step old (Hand output given crash) new → numbered new.outboxes outbox ≡ Some box
      → (box.up ≡ true) ↔ (crash ≡ No)
  -- while it is down nothing is put into it, sent from it or handed to it
  pub hands : (output outbox number : ℕ) (from : Output) → IsAnswerTo old output from outbox number
      → Step old (Hand output given crash) new → crash ≢ No → IsDown new outbox
