-- Why a connection ends, and what was read.
use Rattle.std.proofs.Common.{◌≡◌, ◌≤◌, arith, ℕ, List, ◌++◌, length, Option, Some, None}
use Rattle.std.specs.Prelude.{IfSome}
use Rattle.std.proofs.KnownBytes.{Consumes-trans}
use Rattle.std.proofs.lemmas.List.{length-append}
use Rattle.http_wire.specs.declared.inbox.Inbox.{Inbox}
use Rattle.http_messages.specs.Reads.{max_reads}
use Rattle.http_messages.specs.declared.refusal.ConnFault.{ConnFault}
use Rattle.http_messages.specs.declared.refusal.ConnFault.TheVariants.{Write, ReadLimit, Memory}
use Rattle.http_messages.specs.declared.refusal.ConnFault.TheVariants as fault
use Rattle.http_wire.specs.Calls.{IsFault}
use Rattle.http_wire.specs.Inbox.{held, reads}
use Rattle.http_wire.specs.Wire.{Wire}
use Rattle.filing_model.specs.declared.served.Ended.{Ended}
use Rattle.filing_model.specs.declared.served.Ended.TheVariants.{Closed, InputEnded, Fault}
use Rattle.gateway_server.specs.Progress.{HasRead, IsReadToEnd, ReadsSome, TellsEnd}

-- which fault it is
pub TellsEnd-fault : (from to : Wire) (inbox : Inbox) (left : Option (List ℕ)) (f : ConnFault)
    → IsFault from to (reads inbox) (held inbox) f → TellsEnd inbox left (Fault f)
TellsEnd-fault from to inbox left fault.Read why = tt
TellsEnd-fault from to inbox left (Write sent) why = tt
TellsEnd-fault from to inbox left ReadLimit why = (why.1, why.2)
TellsEnd-fault from to inbox left Memory why = λ all u. let block = why.1 all in
    u.unended block.1.0 block.1.1.short block.1.1.ends

-- if it was the end of the input, nothing is left
pub told_at_end : (inbox : Inbox) (left : Option (List ℕ)) (ended : Option Ended) → IfSome ended (TellsEnd inbox left)
    → IfSome ended (IsReadToEnd left)
told_at_end inbox left None told = tt
told_at_end inbox left (Some Closed) told = λ e. absurd (cc)
told_at_end inbox left (Some InputEnded) told = λ _. told
told_at_end inbox left (Some (Fault fault)) told = λ e. absurd (cc)

-- ---- what was read

-- the limit of reads comes once so many bytes were read
pub has_read : (old new : Wire) (inbox inbox' : Inbox) (ended : Option Ended) → reads inbox ≡ 0
    → ReadsSome old.left new.left inbox inbox' → IfSome ended (TellsEnd inbox' new.left)
    → IfSome ended (HasRead old new)
has_read old new inbox inbox' None none read told = tt
has_read old new inbox inbox' (Some ended) none read told = (read.0, read.1, go ended told)
  where
    go : (ended : Ended) → TellsEnd inbox' new.left ended → ended ≡ Fault fault.ReadLimit
        → max_reads ≤ length read.0
    go Closed told e = absurd (cc)
    go InputEnded told e = absurd (cc)
    go (Fault fault.Read) told e = absurd (cc)
    go (Fault (fault.Write sent)) told e = absurd (cc)
    go (Fault fault.ReadLimit) told e = omega (arith, told.0, read.2, none)
    go (Fault fault.Memory) told e = absurd (cc)

-- two calls read what each of them did
pub ReadsSome-join : (left left' left'' : Option (List ℕ)) (old mid new : Inbox) → ReadsSome left left' old mid
    → ReadsSome left' left'' mid new → ReadsSome left left'' old new
ReadsSome-join left left' left'' old mid new first second = (
  first.0 ++ second.0,
  Consumes-trans left left' left'' first.0 second.0 first.1 second.1,
  omega (arith, first.2, second.2, length-append first.0 second.0),
)
