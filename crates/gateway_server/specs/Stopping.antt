-- What serving a connection does if it may be stopped at one of its requests.
use Rattle.std.specs.Prelude.{◌≡◌, ℕ, suc, ◌≤◌, max, Bool, true, false, List, length, Option, Some, None, IsSome}
use Rattle.std.specs.Prelude.{IfSome}
use Rattle.std.specs.Io.KnownBytes.{Consumes, Appends, IsAtEnd}
use Rattle.sqlite.specs.Store.{Ghosts}
use Rattle.http_wire.specs.declared.inbox.Inbox.{Inbox}
use Rattle.http_messages.specs.declared.refusal.ConnFault.TheVariants as fault
use Rattle.http_wire.specs.Wire.{Wire, NoneFailed}
use Rattle.http_messages.specs.Reads.{max_reads}
use Rattle.filing_model.specs.declared.served.Ended.{Ended}
use Rattle.filing_model.specs.declared.served.Ended.TheVariants as how
use Rattle.filing_model.specs.declared.served.Mark.{Mark}
use Rattle.filing_model.specs.Serving.{Keeping, keeping}
use Rattle.filing_model.specs.Stopping.{Crash, No, Before, After, ComeBefore, IsStopped, StopsOrServes}
use Rattle.intake_core.specs.declared.intake.Intake.{Intake}
use Rattle.intake_core.specs.Held.{limit_of, KeepsSetting, IsTransition}
use Rattle.gateway_server.specs.declared.serving.Partly.{Partly}
use Rattle.gateway_server.specs.declared.serving.Turn.{Turn}
use Rattle.gateway_server.specs.declared.serving.Turn.TheVariants.{On, Stopped, Ended as Ends}
use Rattle.gateway_server.specs.declared.stop.Stop.{Stop}
use Rattle.gateway_server.specs.declared.stop.Stop.TheVariants as stop
use Rattle.gateway_server.specs.Answered.{WritesPart}
use Rattle.gateway_server.specs.Written.{WritesTexts}
use Rattle.gateway_server.specs.Progress.{GoesOn, FailsWithin, HasRead, ServesConnection, IsEndedBy, IsReadToEnd}
use Rattle.gateway_server.specs.Progress.{IsEndedByReply, TellsEnd}

-- the stop as the model has it
abbrev pub view_stop : Stop → Crash
view_stop stop.Never = No
view_stop (stop.Before number) = Before number
view_stop (stop.After number) = After number

-- what the connection came to, up to its end or to the stop; a failed write says how many bytes it took of the text in
-- which it failed
pub record ServesConnectionUntil (requests : Keeping) (old new : Wire) (crash : Crash) (marks : List Mark)
    (ended : Option Ended) : Type 0 where
  pub got : List ℕ
  pub sent : List ℕ
  pub read : Consumes old.left new.left got
  pub wrote : Appends old.written new.written sent
  pub serves : StopsOrServes requests got crash marks ended sent
  pub at_end : ended ≡ Some how.InputEnded → IsAtEnd new.left
  pub limited : ended ≡ Some (how.Fault fault.ReadLimit) → max_reads ≤ length got
  pub failed : (n : ℕ) → ended ≡ Some (how.Fault (fault.Write n)) → FailsWithin requests got marks sent n

-- How many marks there are after a stop: those of the requests before the one to stop at, and one more if it stopped
-- after that one.
abbrev pub IsCountAtStop : Crash → ℕ → Type 0
IsCountAtStop No count = ⊥
IsCountAtStop (Before j) count = suc count ≡ max 1 j
IsCountAtStop (After j) count = count ≡ max 1 j

-- How many marks there are after a stop, or after an end before the request to stop at.
abbrev pub IsCountUntil : Crash → ℕ → Option Ended → Type 0
IsCountUntil crash count None = IsCountAtStop crash count
IsCountUntil crash count (Some ended) = ComeBefore crash count

-- why serving ended; if it was stopped, neither the reader nor the writer failed
abbrev pub IsEndedOrStoppedBy : Wire → Wire → Option Ended → Type 0
IsEndedOrStoppedBy old new None = NoneFailed old new
IsEndedOrStoppedBy old new (Some ended) = IsEndedBy old new ended

-- What serving a connection up to its end or to a stop does with its wire and an intake, and what it came to.
pub record ServesUpTo {S : Type 0} (g : Ghosts S) (from to : Wire) (old new : Intake S) (at : Stop)
    (result : Partly) : Type 0 where
  -- if the disk is clean at the end, all that was read and written, marked and kept is what serving these bytes up
  -- to the stop does
  pub serves : IsTransition g old new (λ old_style before after. ServesConnectionUntil
      (keeping (limit_of old) old_style before after) from to (view_stop at) result.marks.items result.ended)
  -- as many keys may be kept as before, and a disk that is clean at the end was clean before
  pub setting : KeepsSetting g old new
  -- why it ended, whatever the disk did
  pub fault : IsEndedOrStoppedBy from to result.ended
  pub read : IfSome result.ended (HasRead from to)
  pub at_end : IfSome result.ended (IsReadToEnd to.left)
  -- what went out, whatever the disk did
  pub texts : WritesTexts from.written to.written result.ended
  -- how many marks there are, whatever the disk did; if no stop is asked for, the connection ended
  pub counted : IsCountUntil (view_stop at) (length result.marks.items) result.ended
  pub never : at ≡ stop.Never → IsSome result.ended

-- ---- of a part of a connection; no public clause cites what follows

-- the stop is before the request of this number is decided
abbrev pub IsBefore : Crash → ℕ → Type 0
IsBefore No number = ⊥
IsBefore (Before j) number = number ≡ max 1 j
IsBefore (After j) number = ⊥

-- the stop is after the request of this number is decided
abbrev pub IsAfter : Crash → ℕ → Type 0
IsAfter No number = ⊥
IsAfter (Before j) number = ⊥
IsAfter (After j) number = number ≡ max 1 j

-- what a connection came to that was stopped
pub record StopsConnection (requests : Keeping) (old new : Wire) (crash : Crash) (marks : List Mark) : Type 0 where
  pub got : List ℕ
  pub sent : List ℕ
  pub read : Consumes old.left new.left got
  pub wrote : Appends old.written new.written sent
  pub stopped : IsStopped requests got crash marks sent

-- how it ended, if it did
abbrev pub end_of : Turn → Option Ended
end_of On = None
end_of Stopped = None
end_of (Ends ended) = Some ended

-- the connection goes on, was stopped, or has ended
abbrev pub Continues : Keeping → Wire → Wire → Inbox → Crash → List Mark → Turn → Type 0
Continues requests old new inbox crash marks On = GoesOn requests old new inbox marks
Continues requests old new inbox crash marks Stopped = StopsConnection requests old new crash marks
Continues requests old new inbox crash marks (Ends ended) = ServesConnection requests old new marks ended

-- the connection was stopped, or has ended
abbrev pub StopsOrEnds : Keeping → Wire → Wire → Crash → List Mark → Option Ended → Type 0
StopsOrEnds requests old new crash marks None = StopsConnection requests old new crash marks
StopsOrEnds requests old new crash marks (Some ended) = ServesConnection requests old new marks ended

-- how many marks there are after an arrival
abbrev pub IsCountAt : Crash → ℕ → Turn → Type 0
IsCountAt crash count On = ComeBefore crash count
IsCountAt crash count Stopped = IsCountAtStop crash count
IsCountAt crash count (Ends ended) = ComeBefore crash count

-- neither the reader nor the writer failed, unless that ended the connection
abbrev pub IsTurnBy : Wire → Wire → Turn → Type 0
IsTurnBy old new On = NoneFailed old new
IsTurnBy old new Stopped = NoneFailed old new
IsTurnBy old new (Ends ended) = IsEndedBy old new ended

-- the writer did not fail at an answer, unless that ended the connection
abbrev pub IsTurnByReply : ℕ → ℕ → Turn → Type 0
IsTurnByReply failures failures' On = failures' ≡ failures
IsTurnByReply failures failures' Stopped = failures' ≡ failures
IsTurnByReply failures failures' (Ends ended) = IsEndedByReply failures failures' ended

-- why the connection ended, if it did
abbrev pub TellsTurn : Inbox → Option (List ℕ) → Turn → Type 0
TellsTurn inbox left On = Unit {0}
TellsTurn inbox left Stopped = Unit {0}
TellsTurn inbox left (Ends ended) = TellsEnd inbox left ended

-- the connection was stopped exactly if the stop is after the request of this number
abbrev pub IsStoppedAfter : Crash → ℕ → Turn → Type 0
IsStoppedAfter crash number On = ¬ (IsAfter crash number)
IsStoppedAfter crash number Stopped = IsAfter crash number
IsStoppedAfter crash number (Ends ended) = ¬ (IsAfter crash number)

-- A reply of this text was written, and the connection goes on or closes; or it was stopped, and nothing was written;
-- or a fault came after a part of the text, as long as the fault says.
abbrev pub Replies : Option (List ℕ) → Option (List ℕ) → List ℕ → Bool → Turn → Type 0
Replies from to text close On = Appends from to text × (close ≡ false)
Replies from to text close Stopped = to ≡ from
Replies from to text close (Ends how.Closed) = Appends from to text × (close ≡ true)
Replies from to text close (Ends how.InputEnded) = ⊥
Replies from to text close (Ends (how.Fault fault)) = WritesPart from to text fault
