-- One exchange, as two events of the world: its request is sent, and a reply is handed to it; own rules.
use Rattle.std.specs.Prelude.{◌≡◌, ℕ, true, List, [], ◌∷◌, ◌++◌, take, Some}
use Rattle.filing_model.specs.Outbox.{State}
use Rattle.filing_model.specs.Stopping.{No}
use Rattle.filing_world.specs.World.{Outbox, Sent, Output, World, Send, Hand, numbered, renewed}
use Rattle.filing_world.specs.Step.{Step}
use Rattle.outbox_core.specs.Entries.{set_state}

-- the outbox of this number in the world is this one, and is up
pub record IsBox (world : World) (outbox : ℕ) (box : Outbox) : Type 0 where
  pub here : numbered world.outboxes outbox ≡ Some box
  pub up : box.up ≡ true

-- The request of an entry was sent, and nothing else changed.
pub record IsSent (old : World) (outbox id : ℕ) (text : List ℕ) (new : World) : Type 0 where
  pub step : Step old (Send outbox id) new
  pub becomes : new ≡ record old { sent = old.sent ++ record { from = Some (outbox, id); bytes = text } ∷ [] }

-- The bytes that come are the first ones of an output that answers an item of this entry.
pub record ComesOf (world : World) (outbox id output given : ℕ) (bytes : List ℕ) : Type 0 where
  pub from : Output
  pub here : numbered world.outputs output ≡ Some from
  pub item : Sent
  pub item_here : numbered world.sent from.item ≡ Some item
  pub sender : item.from ≡ Some (outbox, id)
  pub first : bytes ≡ take given from.bytes

-- A reply was handed to the entry, which moved to this state, and nothing else changed.
pub record IsMoved (old : World) (outbox id output : ℕ) (box : Outbox) (to : State) (new : World) : Type 0 where
  pub given : ℕ
  pub step : Step old (Hand output given No) new
  pub becomes : new ≡ record old {
    outboxes =
        renewed old.outboxes outbox (record box { entries = set_state box.entries id to; up = true });
  }
