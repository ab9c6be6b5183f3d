-- How far a connection was served, and what serving it to its end does.
use Rattle.std.specs.Prelude.{◌≡◌, ℕ, ◌+◌, ◌≤◌, true, false, List, [], ◌∷◌, ◌++◌, length, take, drop, map, Option, Some}
use Rattle.std.specs.Io.KnownBytes.{Consumes, Appends, IsAtEnd}
use Rattle.sqlite.specs.Store.{Ghosts}
use Rattle.http_wire.specs.declared.inbox.Inbox.{Inbox}
use Rattle.http_messages.specs.declared.refusal.ConnFault.{ConnFault}
use Rattle.http_messages.specs.declared.refusal.ConnFault.TheVariants as fault
use Rattle.http_messages.specs.declared.refusal.Refusal.{Refusal}
use Rattle.http_messages.specs.Block.{IsUnended}
use Rattle.http_wire.specs.Calls.{HoldsArrival, interim_if}
use Rattle.http_wire.specs.Inbox.{held, unread, reads, is_over, lent_awaits, LendsFirst}
use Rattle.http_wire.specs.Wire.{Wire, ReaderFailed, WriterFailed, NoneFailed}
use Rattle.http_messages.specs.Head.{closes}
use Rattle.http_messages.specs.Message.{Arrival, Read, Ending, Asks, BeginsRequest, IsRefused, interim}
use Rattle.http_messages.specs.Reads.{max_reads}
use Rattle.http_messages.specs.Request.{Request as Message}
use Rattle.filing_model.specs.declared.served.Ended.{Ended}
use Rattle.filing_model.specs.declared.served.Ended.TheVariants.{InputEnded, Closed, Fault}
use Rattle.filing_model.specs.declared.served.Mark.{Mark}
use Rattle.filing_model.specs.Request.{Request}
use Rattle.filing_model.specs.Serving.{Keeping, keeping, AreMarked, BeginsArrivals, Serves, kept_by}
use Rattle.filing_model.specs.Text.{completed, interim_of, reply_text_with, text_with}
use Rattle.intake_core.specs.declared.intake.Intake.{Intake}
use Rattle.intake_core.specs.Held.{limit_of, KeepsSetting, IsTransition}
use Rattle.gateway_server.specs.declared.serving.Served.{Served}
use Rattle.gateway_server.specs.Answered.{IsReplyFault}
use Rattle.gateway_server.specs.Written.{WritesTexts}

-- the bytes begin with these messages, none of which closes, and the rest follows
abbrev pub GoesThrough : List ℕ → List Message → List ℕ → Type 0
GoesThrough bytes [] rest = rest ≡ bytes
GoesThrough bytes (message ∷ messages) rest =
    (n : ℕ) × BeginsRequest bytes message n × (closes message.head ≡ false) × GoesThrough (drop n bytes) messages rest

-- The bytes begin with messages that are marked and answered, none of which closes; the rest follows.
pub record HasServed (requests : Keeping) (bytes rest : List ℕ) (marks : List Mark) (out : List ℕ) : Type 0 where
  pub messages : List Message
  pub goes : GoesThrough bytes messages rest
  pub marked : AreMarked requests.limit requests.before (map Read messages) marks
  pub written : out ≡ text_with requests.old_style requests.before (map Read messages) Ending.Closed marks
  pub kept : requests.after ≡ kept_by requests.before (completed (map Read messages) marks)

-- The text that is written next if `rest` follows what was served, after the old-style requests and those that are kept
-- now. With no further mark it is the interim response that the rest asks for; with one further mark, the reply to the
-- arrival with which the rest begins, behind its interim response.
abbrev pub IsNextText : List Request → List Request → List ℕ → List Mark → List ℕ → List ℕ → Type 0
IsNextText old_style now rest [] lead text = Asks rest true × (lead ≡ []) × (text ≡ interim)
IsNextText old_style now rest (mark ∷ []) lead text =
    (arrival : Arrival) × BeginsArrivals rest (arrival ∷ []) Ending.Closed × (lead ≡ interim_of arrival)
    × (text ≡ reply_text_with old_style now arrival mark)
IsNextText old_style now rest (mark ∷ another ∷ marks) lead text = ⊥

-- The writer failed within a text: what comes before it went out whole, and of the text itself the first `sent` bytes.
pub record FailsWithin (requests : Keeping) (bytes : List ℕ) (marks : List Mark) (out : List ℕ) (sent
    : ℕ) : Type 0 where
  pub rest : List ℕ
  pub done : List Mark
  pub before : List ℕ
  pub now : List Request
  pub served : HasServed (record requests { after = now }) bytes rest done before
  pub more : List Mark
  pub lead : List ℕ
  pub text : List ℕ
  pub next : IsNextText requests.old_style now rest more lead text
  pub marked : marks ≡ done ++ more
  pub within : sent ≤ length text
  pub written : out ≡ before ++ (lead ++ take sent text)

-- What a connection came to: some bytes were read and some text was written, and that is what serving these bytes may
-- mark, write, keep and end with. A failed write says how many bytes it took of the text in which it failed.
pub record ServesConnection (requests : Keeping) (old new : Wire) (marks : List Mark) (ended : Ended) : Type 0 where
  pub got : List ℕ
  pub sent : List ℕ
  pub read : Consumes old.left new.left got
  pub wrote : Appends old.written new.written sent
  pub serves : Serves requests got marks ended sent
  pub at_end : ended ≡ InputEnded → IsAtEnd new.left
  pub limited : ended ≡ Fault fault.ReadLimit → max_reads ≤ length got
  pub failed : (n : ℕ) → ended ≡ Fault (fault.Write n) → FailsWithin requests got marks sent n

-- why a connection ended by a fault: the reader or the writer failed, and the other didn't; or neither did
abbrev pub IsEndedByFault : Wire → Wire → ConnFault → Type 0
IsEndedByFault old new fault.Read = ReaderFailed old new
IsEndedByFault old new (fault.Write sent) = WriterFailed old new
IsEndedByFault old new fault.ReadLimit = NoneFailed old new
IsEndedByFault old new fault.Memory = NoneFailed old new

-- why a connection ended; without a fault neither the reader nor the writer failed
abbrev pub IsEndedBy : Wire → Wire → Ended → Type 0
IsEndedBy old new Closed = NoneFailed old new
IsEndedBy old new InputEnded = NoneFailed old new
IsEndedBy old new (Fault fault) = IsEndedByFault old new fault

-- Some bytes were read. The limit of reads is stated in them, since a reader names its bytes and not its reads: each of
-- so many reads gave at least one byte.
abbrev pub HasRead : Wire → Wire → Ended → Type 0
HasRead old new ended = (bytes : List ℕ) × Consumes old.left new.left bytes
    × (ended ≡ Fault fault.ReadLimit → max_reads ≤ length bytes)

-- if the input ended, nothing is left of it
abbrev pub IsReadToEnd : Option (List ℕ) → Ended → Type 0
IsReadToEnd left ended = ended ≡ InputEnded → IsAtEnd left

-- What serving a connection to its end does with its wire and an intake, and what it came to.
pub record ServesToEnd {S : Type 0} (g : Ghosts S) (from to : Wire) (old new : Intake S) (result
    : Served) : Type 0 where
  -- if the disk is clean at the end, all that was read and written, marked and kept is what serving these bytes does
  pub serves : IsTransition g old new (λ old_style before after. ServesConnection
      (keeping (limit_of old) old_style before after) from to result.marks.items result.ended)
  -- as many keys may be kept as before, and a disk that is clean at the end was clean before
  pub setting : KeepsSetting g old new
  -- why it ended, whatever the disk did
  pub fault : IsEndedBy from to result.ended
  pub read : HasRead from to result.ended
  pub at_end : IsReadToEnd to.left result.ended
  -- what went out, whatever the disk did
  pub texts : WritesTexts from.written to.written (Some result.ended)

-- ---- of a part of a connection, with its inbox; no public clause cites what follows

-- What was read and written since the connection began, and how far that is served. Each read that is counted gave a
-- byte.
pub record GoesOn (requests : Keeping) (old new : Wire) (inbox : Inbox) (marks : List Mark) : Type 0 where
  pub got : List ℕ
  pub sent : List ℕ
  pub read : Consumes old.left new.left got
  pub counted : reads inbox ≤ length got
  pub wrote : Appends old.written new.written sent
  pub served : HasServed requests got (unread inbox) marks sent
  pub more : is_over inbox ≡ false

-- What was read, written and served if a message is lent that is neither answered nor marked. Its interim response was
-- written.
pub record HasMessage (requests : Keeping) (old new : Wire) (inbox : Inbox) (marks : List Mark) : Type 0 where
  pub got : List ℕ
  pub sent : List ℕ
  pub read : Consumes old.left new.left got
  pub counted : reads inbox ≤ length got
  pub wrote : Appends old.written new.written (sent ++ interim_if (lent_awaits inbox))
  pub served : HasServed requests got (held inbox) marks sent
  pub lends : LendsFirst inbox

-- what was read, written and served if the bytes that are held begin with what is refused
pub record HasRefusal (requests : Keeping) (old new : Wire) (inbox : Inbox) (refusal : Refusal)
    (marks : List Mark) : Type 0 where
  pub got : List ℕ
  pub sent : List ℕ
  pub read : Consumes old.left new.left got
  pub wrote : Appends old.written new.written sent
  pub served : HasServed requests got (held inbox) marks sent
  pub refused : IsRefused (held inbox) refusal

-- the wire with another record of what was written
abbrev pub with_written : Wire → Option (List ℕ) → Wire
with_written wire written = record wire { written = written }

-- how an answer ends a connection, by the writer's failures before and after it
abbrev pub IsEndedByReply : ℕ → ℕ → Ended → Type 0
IsEndedByReply failures failures' Closed = failures' ≡ failures
IsEndedByReply failures failures' InputEnded = ⊥
IsEndedByReply failures failures' (Fault fault) = IsReplyFault failures failures' fault

-- bytes were read, at least one in each read that is counted
abbrev pub ReadsSome : Option (List ℕ) → Option (List ℕ) → Inbox → Inbox → Type 0
ReadsSome left left' old new = (bytes : List ℕ) × Consumes left left' bytes × (reads new ≤ reads old + length bytes)

-- Why a connection ended of whose input this is left. The input ended if nothing is. The limit comes if all reads that
-- may give bytes were made and one more was wanted; memory only if fewer were made, or the inbox does not wait for the
-- end of a block.
abbrev pub TellsEnd : Inbox → Option (List ℕ) → Ended → Type 0
TellsEnd inbox left Closed = Unit {0}
TellsEnd inbox left InputEnded = IsAtEnd left
TellsEnd inbox left (Fault fault.Read) = Unit {0}
TellsEnd inbox left (Fault (fault.Write sent)) = Unit {0}
TellsEnd inbox left (Fault fault.ReadLimit) = (reads inbox ≡ max_reads) × ¬ (HoldsArrival (held inbox))
TellsEnd inbox left (Fault fault.Memory) = reads inbox ≡ max_reads → ¬ (IsUnended (held inbox))
