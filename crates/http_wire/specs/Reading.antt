-- What reading a connection on to its next arrival does, and what it finds.
use Rattle.std.specs.Prelude.{◌≡◌, ℕ, ◌<◌, true, false, List, [], Option, Result}
use Rattle.std.specs.Prelude.{IfOk, IfErr, OnOk}
use Rattle.std.specs.Io.KnownBytes.{Appends, IsAtEnd}
use Rattle.http_connection.specs.Connection.{held, is_over, has_ended, lent_awaits, LendsFirst}
use Rattle.http_connection.specs.declared.connection.Connection.{Connection}
use Rattle.http_wire.specs.declared.inbox.Next.{Next}
use Rattle.http_wire.specs.declared.inbox.Next.TheVariants.{Message, Refuse, End}
use Rattle.http_messages.specs.Message.{IsRefused, IsRest}
use Rattle.http_messages.specs.declared.refusal.ConnFault.{ConnFault}
use Rattle.http_wire.specs.declared.device.Source.{Ghosts as Reads}
use Rattle.http_wire.specs.declared.device.Sink.{Ghosts as Writes}
use Rattle.http_wire.specs.declared.reading.Reading.{Reading}
use Rattle.http_wire.specs.Calls.{HoldsArrival, interim_if, IsFault, WritesAsked, WritesUpTo}
use Rattle.http_wire.specs.Received.{Held, Receives, ReceivesNothing}
use Rattle.http_wire.specs.Wire.{wire, NoneFailed}

-- the bytes that are held, and how many reads gave some
abbrev pub reading : Reading → Held
reading r = record { bytes = held r.connection; reads = r.reads }

-- A read gave bytes and was counted, or it gave none, and the input has ended.
pub record IsRead (left : Option (List ℕ)) (old new : Reading) : Type 0 where
  pub over : is_over new.connection ≡ is_over old.connection
  pub some : old.reads < new.reads → has_ended new.connection ≡ has_ended old.connection
  pub none : new.reads ≡ old.reads → (has_ended new.connection ≡ true) × IsAtEnd left

-- a request or a refusal stands first, or the input ended before either
abbrev pub IsArrival : Option (List ℕ) → Connection → Next → Type 0
IsArrival left c Message = LendsFirst c × (has_ended c ≡ false)
IsArrival left c (Refuse refusal) = IsRefused (held c) refusal
IsArrival left c End = IsRest (held c) × IsAtEnd left

-- what was written if this was found
abbrev pub WritesFor : Option (List ℕ) → Option (List ℕ) → Connection → Next → Type 0
WritesFor before after c Message = Appends before after (interim_if (lent_awaits c))
WritesFor before after c (Refuse refusal) = Appends before after []
WritesFor before after c End = WritesAsked before after (held c)

-- What reading on to the next arrival does with a reader, a writer and a connection, and what it finds.
pub record FindsArrival {R W : Type 0} (r : Reads R) (w : Writes W) (reader reader' : R) (writer writer' : W)
    (old new : Reading) (result : Result Next ConnFault) : Type 0 where
  -- what was read follows what was held, and nothing is read if an arrival is there already
  pub reads : Receives (r.left reader) (r.left reader') (reading old) (reading new)
  pub lazy : HoldsArrival (held old.connection) → ReceivesNothing reader reader' (reading old) (reading new)
  pub found : IfOk result (IsArrival (r.left reader') new.connection)
  pub more : is_over new.connection ≡ false
  -- what was written: the interim response that is asked for, or a part of it
  pub interim : IfOk result (WritesFor (w.written writer) (w.written writer') new.connection)
  pub part : IfErr result (WritesUpTo (w.written writer) (w.written writer') (held new.connection))
  -- neither failed if there is an answer, and otherwise this is why there is none
  pub fine : OnOk result (NoneFailed (wire r w reader writer) (wire r w reader' writer'))
  pub fault : IfErr result (IsFault (wire r w reader writer) (wire r w reader' writer') new.reads (held new.connection))
