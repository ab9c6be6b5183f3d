-- Connections that were served, as events of the world; own rules.
use Rattle.std.specs.Prelude.{◌≡◌, ℕ, List, [], ◌∷◌, ◌++◌, take, map, Some}
use Rattle.http_messages.specs.declared.refusal.ConnFault.TheVariants.{Memory}
use Rattle.filing_model.specs.declared.served.Ended.{Ended}
use Rattle.filing_model.specs.declared.served.Ended.TheVariants.{Closed, InputEnded, Fault}
use Rattle.filing_model.specs.Request.{Request, firsts}
use Rattle.filing_model.specs.Stopping.{No}
use Rattle.filing_world.specs.World.{Sent, Output, World, Event, Deliver, numbered}
use Rattle.filing_world.specs.Step.{Run}
use Rattle.gateway_server.specs.Connections.{Connection}

-- what came on a connection: so many of the first bytes of the item that was sent under this number
pub record Delivery : Type 0 where
  pub item : ℕ
  pub given : ℕ

-- what was read of a connection are the bytes of this delivery
pub record IsOf (sent : List Sent) (connection : Connection) (delivery : Delivery) : Type 0 where
  pub from : Sent
  pub here : numbered sent delivery.item ≡ Some from
  pub read : connection.read ≡ take delivery.given from.bytes

-- what was read of each connection are the bytes of its delivery
abbrev pub AreOf : List Sent → List Connection → List Delivery → Type 0
AreOf sent [] [] = Unit {0}
AreOf sent [] (delivery ∷ deliveries) = ⊥
AreOf sent (connection ∷ connections) [] = ⊥
AreOf sent (connection ∷ connections) (delivery ∷ deliveries) =
    IsOf sent connection delivery × AreOf sent connections deliveries

-- each delivery as an event, without a stop
abbrev pub events_of : List Delivery → List Event
events_of deliveries = map (λ delivery. Deliver delivery.item delivery.given No) deliveries

-- A connection that a fault ended is one in the world for which memory ran out: in either case a first part was marked
-- and written.
abbrev pub end_in_world : Ended → Ended
end_in_world Closed = Closed
end_in_world InputEnded = InputEnded
end_in_world (Fault fault) = Fault Memory

-- what became of a connection, as an output of the world
pub record IsOutputOf (connection : Connection) (delivery : Delivery) (output : Output) : Type 0 where
  pub item : output.item ≡ delivery.item
  pub marks : output.marks ≡ connection.output.marks
  pub ended : output.ended ≡ Some (end_in_world connection.output.ended)
  pub bytes : output.bytes ≡ connection.output.bytes

-- what became of each connection is the output of its delivery
abbrev pub AreOutputsOf : List Connection → List Delivery → List Output → Type 0
AreOutputsOf [] [] [] = Unit {0}
AreOutputsOf (connection ∷ connections) (delivery ∷ deliveries) (output ∷ outputs) =
    IsOutputOf connection delivery output × AreOutputsOf connections deliveries outputs
AreOutputsOf _ _ _ = ⊥

-- The world went on by the deliveries of these connections, and these requests are kept now.
pub record GoesOnTo (old : World) (connections : List Connection) (deliveries : List Delivery) (after : List Request)
    (new : World) : Type 0 where
  pub run : Run old (events_of deliveries) new
  -- they are the first ones of all that were completed
  pub kept : after ≡ firsts new.done
  -- what became of each connection is an output
  pub more : List Output
  pub outputs : new.outputs ≡ old.outputs ++ more
  pub are : AreOutputsOf connections deliveries more
  -- nothing else changed
  pub others : new ≡ record old { done = new.done; outputs = new.outputs }
