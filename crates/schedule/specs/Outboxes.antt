-- What contracts see of an outbox in files.
use Rattle.std.specs.Prelude.{ℕ, true, List, Option, Some, None, Result, Ok, Err}
use Rattle.http_messages.specs.declared.refusal.ReplyFault.TheVariants.{Cut, Malformed, NoLength, TooLarge, Read}
use Rattle.http_messages.specs.declared.refusal.ReplyFault.TheVariants.{ReadLimit, Memory}
use Rattle.filing_model.specs.Outbox.{Entry, State}
use Rattle.filing_world.specs.World.{Outbox}
use Rattle.outbox_core.specs.declared.fault.TakeFault.TheVariants as take
use Rattle.filing_model.specs.declared.state.State.{State as Stored}
use Rattle.outbox_core.specs.Entries.{set_state}
use Rattle.filing_model.specs.Views.{view_state}
use Rattle.filer_client.specs.declared.fault.ExchangeFault.{ExchangeFault}
use Rattle.filer_client.specs.declared.fault.ExchangeFault.TheVariants.{Write, Reply, Take}
use Rattle.table_rows.specs.declared.fault.StoreFault.{StoreFault}
use Rattle.table_rows.specs.declared.fault.StoreFault.TheVariants as store

-- an outbox that is up
abbrev pub up_with : List ℕ → List Entry → Outbox
up_with filer entries = record { filer = filer; entries = entries; up = true }

-- ---- calls

-- what is there after a call: what the answer leaves, or, after a refusal, what was there
abbrev pub after_answer : {A E X : Type 0} → Result A E → X → (A → X) → X
after_answer (Ok answer) old left = left answer
after_answer (Err fault) old left = old

-- ---- replies

-- Why a reply was not taken, if a store refused it or memory ran out. Bytes that give no reply move nothing, and that
-- is no fault.
abbrev pub why_unheard : ExchangeFault → Option StoreFault
why_unheard (Reply Cut) = None
why_unheard (Reply Malformed) = None
why_unheard (Reply NoLength) = None
why_unheard (Reply TooLarge) = None
why_unheard (Reply ReadLimit) = None
why_unheard (Reply Read) = None
why_unheard (Reply Memory) = Some store.Memory
why_unheard (Take take.Memory) = Some store.Memory
why_unheard (Take take.NoEntry) = Some store.Store
why_unheard (Take take.Store) = Some store.Store
why_unheard (Write sent) = Some store.Store

-- the state that an entry came to, or its own
abbrev pub state_or : State → Option Stored → State
state_or own None = own
state_or own (Some to) = view_state to

-- the entries, with that of this number in the state to which it came
abbrev pub entries_after : List Entry → ℕ → Option Stored → List Entry
entries_after entries number None = entries
entries_after entries number (Some to) = set_state entries number (view_state to)
