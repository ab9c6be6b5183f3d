-- The intake, the outboxes and everything that was ever sent or written, and what may happen to them.
use Rattle.std.specs.Prelude.{ℕ, Bool, true, List, [], Option}
use Rattle.filing_model.specs.declared.served.Mark.{Mark}
use Rattle.filing_model.specs.declared.served.Ended.{Ended}
use Rattle.filing_model.specs.Request.{Request}
use Rattle.filing_model.specs.Outbox.{Entry}
use Rattle.filing_model.specs.Stopping.{Crash}
pub use Rattle.filing_model.specs.Numbered.{numbered, renewed}

-- a filer's reports to be sent, numbered from 1
pub record Outbox : Type 0 where
  pub filer : List ℕ
  pub entries : List Entry
  pub up : Bool

-- bytes that were sent, for an entry of an outbox or by a stranger
pub record Sent : Type 0 where
  pub from : Option (ℕ × ℕ)
  pub bytes : List ℕ

-- what one delivery left: how many bytes of which item came, after how many completed requests, and what was marked and
-- written
pub record Output : Type 0 where
  pub item : ℕ
  pub given : ℕ
  pub before : ℕ
  pub marks : List Mark
  pub ended : Option Ended
  pub bytes : List ℕ

-- how many filers' keys may be kept; the completed requests, the sent items and the outputs so far; the outboxes; and
-- whether the intake is up
pub record World : Type 0 where
  pub limit : ℕ
  pub done : List Request
  pub sent : List Sent
  pub outputs : List Output
  pub outboxes : List Outbox
  pub up : Bool

-- Outboxes, entries, items and outputs are named by their numbers, from 1 on. A delivery and a reply that is handed
-- over give so many bytes, or all if there are fewer.
pub data Event : Type 0 where
  Put : (outbox : ℕ) (key : List ℕ) (target : Option ℕ) (body : List ℕ) → Event
  Send : (outbox entry : ℕ) → Event
  Stranger : (bytes : List ℕ) → Event
  Deliver : (item bytes : ℕ) → Crash → Event
  Hand : (output bytes : ℕ) → Crash → Event
  RestartServer : Event
  RestartOutbox : (outbox : ℕ) → Event

-- an outbox at first
abbrev pub new_outbox : List ℕ → Outbox
new_outbox filer = record { filer = filer; entries = []; up = true }
