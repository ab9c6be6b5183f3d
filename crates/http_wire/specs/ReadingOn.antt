-- What reading on to the next request or refusal of a connection does.
use Rattle.std.specs.Prelude.{◌≡◌, ◌||◌, ◌≤◌, true, length, Result, Ok, IfOk, IfErr, OnOk, OnErr, is_err}
use Rattle.http_wire.specs.declared.device.Source.{Ghosts as Reads}
use Rattle.http_wire.specs.declared.device.Sink.{Ghosts as Writes}
use Rattle.http_wire.specs.declared.inbox.Inbox.{Inbox}
use Rattle.http_messages.specs.declared.refusal.ConnFault.{ConnFault}
use Rattle.http_wire.specs.declared.inbox.Next.{Next}
use Rattle.http_wire.specs.declared.inbox.Next.TheVariants.{End}
use Rattle.http_wire.specs.Calls.{HoldsArrival, WritesUpTo, IsFault}
use Rattle.http_wire.specs.Inbox.{held, memory, unread, is_over, is_failed, ReadsOn, ReadsNothing, IsNext}
use Rattle.http_wire.specs.Inbox.{WritesInterim}
use Rattle.http_wire.specs.Inbox as inbox
use Rattle.http_wire.specs.Wire.{wire, NoneFailed}

-- What `next` does with a reader, a writer and the inbox between them, and what it answers.
pub record FindsNext {R W : Type 0} (r : Reads R) (w : Writes W) (reader reader' : R) (writer writer' : W)
    (old new : Inbox) (result : Result Next ConnFault) : Type 0 where
  -- what was read follows what was held
  pub reads : ReadsOn (r.left reader) (r.left reader') old new
  -- nothing is read if a request or a refusal is there already
  pub lazy : HoldsArrival (unread old) → ReadsNothing reader reader' old new
  -- no more is held than the longest head and the longest body take, with the CRLF before them that is skipped, and
  -- there is no more memory for it
  pub bound : length (held new) ≤ 1064962
  pub memory : memory new ≤ 1064962
  -- the answer is what stands next in it
  pub arrival : IfOk result (IsNext (r.left reader') old new)
  -- if nothing arrives any more, nothing is read or written
  pub over : is_over old ≡ true → (result ≡ Ok End) × (writer' ≡ writer) × ReadsNothing reader reader' old new
  -- what was written: the interim response that is asked for, or a part of it
  pub interim : IfOk result (WritesInterim (w.written writer) (w.written writer') old new)
  pub part : IfErr result (WritesUpTo (w.written writer) (w.written writer') (held new))
  -- neither failed if there is an answer, and otherwise this is why there is none
  pub fine : OnOk result (NoneFailed (wire r w reader writer) (wire r w reader' writer'))
  pub fault : IfErr result (IsFault (wire r w reader writer) (wire r w reader' writer') (inbox.reads new) (held new))
  -- after a fault nothing arrives any more
  pub failed : is_failed new ≡ (is_failed old || is_err result)
  pub closed : OnErr result (is_over new ≡ true)
