-- What becomes of an inbox.
use Rattle.std.proofs.Common.{◌≡◌, ◌≤◌, ◌||◌, Bool, true, false, length}
use Rattle.std.proofs.Common.{refl, sym, ◌∙◌, subst}
use Rattle.std.proofs.lemmas.Bool.{false≢true}
use Rattle.std.specs.Prelude.{Result, IfOk, IfErr, OnOk, OnErr, is_err}
use Rattle.http_connection.specs.Connection as machine
use Rattle.http_messages.specs.declared.refusal.ConnFault.{ConnFault}
use Rattle.http_wire.specs.declared.device.Source.{Ghosts as Reads}
use Rattle.http_wire.specs.declared.device.Sink.{Ghosts as Writes}
use Rattle.http_wire.specs.declared.inbox.Inbox.{Inbox}
use Rattle.http_wire.specs.declared.inbox.Next.{Next}
use Rattle.http_wire.specs.declared.reading.Reading.{Reading}
use Rattle.http_wire.specs.Calls.{HoldsArrival, WritesUpTo, IsFault}
use Rattle.http_wire.specs.Inbox.{held, memory, unread, reads, is_over, is_failed, LendsFirst, IsNext}
use Rattle.http_wire.specs.Inbox.{WritesInterim}
use Rattle.http_wire.specs.Reading.{reading}
use Rattle.http_wire.specs.ReadingOn.{FindsNext}
use Rattle.http_wire.specs.Received.{Held, Receives, ReceivesNothing}
use Rattle.http_wire.specs.Wire.{wire, NoneFailed}

-- what is held after the request that was lent is dropped
abbrev left : Inbox → Held
left i = record { bytes = unread i; reads = reads i }

-- a whole request that was found is lent
pub LendsFirst-found : (i : Inbox) → machine.is_over i.reading.connection ≡ false
    → machine.LendsFirst i.reading.connection → LendsFirst i
LendsFirst-found i more lends = record {
  request = lends.request;
  lent = lends.lends;
  begins = lends.begins;
  last = rw (more, lends.lends);
}

-- what a call on an inbox that was open comes to, after the request that was lent is dropped
pub opened : {R W : Type 0} {r : Reads R} {w : Writes W} {reader reader' : R} {writer writer' : W} {old : Inbox}
    (mid : Reading) {new : Inbox} {result : Result Next ConnFault}
    → is_over old ≡ false → reading mid ≡ left old
    → Receives (r.left reader) (r.left reader') (reading mid) (reading new.reading)
    → (HoldsArrival (machine.held mid.connection) → ReceivesNothing reader reader' (reading mid) (reading new.reading))
    → length (held new) ≤ 1064962 → memory new ≤ 1064962
    → IfOk result (IsNext (r.left reader') old new)
    → IfOk result (WritesInterim (w.written writer) (w.written writer') old new)
    → IfErr result (WritesUpTo (w.written writer) (w.written writer') (held new))
    → OnOk result (NoneFailed (wire r w reader writer) (wire r w reader' writer'))
    → IfErr result (IsFault (wire r w reader writer) (wire r w reader' writer') (reads new) (held new))
    → is_failed new ≡ (is_failed old || is_err result) → OnErr result (is_over new ≡ true)
    → FindsNext r w reader reader' writer writer' old new result
opened {r = r} {reader = reader} {reader' = reader'} {old = old} mid {new} more dropped read lazy bound room arrival
    interim part quiet fault failed closed =
    let got = subst (λ h. Receives (r.left reader) (r.left reader') h (reading new.reading)) dropped read in
    record {
      reads = record { held_is = got.bytes; given = got.given; count = got.reads; each = got.each };
      lazy = λ holds.
          let none = subst (λ h. HoldsArrival h.bytes → ReceivesNothing reader reader' h (reading new.reading)) dropped
          lazy holds in
          record { reader = none.reader; count = none.reads; held_is = none.bytes };
      bound = bound;
      memory = room;
      arrival = arrival;
      over = λ over. absurd (false≢true (sym more ∙ over));
      interim = interim;
      part = part;
      fine = quiet;
      fault = fault;
      failed = failed;
      closed = closed;
    }

pub or-none : (x : Bool) → x ≡ (x || false)
or-none true = refl
or-none false = refl

pub or-all : (x : Bool) → true ≡ (x || true)
or-all true = refl
or-all false = refl

pub or-first : (x y : Bool) → x ≡ true → (x || y) ≡ true
or-first true y is = refl
or-first false y is = absurd (false≢true is)
