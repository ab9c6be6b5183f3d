-- What an exchange writes and reads, and what it makes of an entry.
use Rattle.std.specs.Prelude.{◌≡◌, ◌≢◌, ◌⊎◌, ◌≤◌, ℕ, List, [], length, take, Option, Some, None, option_map, Result}
use Rattle.std.specs.Prelude.{OnOk}
use Rattle.std.specs.Io.KnownBytes.{Appends}
use Rattle.http_wire.specs.declared.device.Source.{Ghosts as Reads}
use Rattle.http_wire.specs.Device.{HasFailed}
use Rattle.http_messages.specs.Reply.{ReplyParts}
use Rattle.http_wire.specs.ReplyFaults.{HasGiven, IsReplyFailure}
use Rattle.http_messages.specs.Response.{GivesReply}
use Rattle.sqlite.specs.Store.{Ghosts}
use Rattle.filing_model.specs.Outbox.{Entry, State, Open, bytes_of, request_of, moved}
use Rattle.outbox_core.specs.declared.fault.TakeFault.TheVariants.{NoEntry, Memory, Store}
use Rattle.outbox_tables.specs.Entries.{entry_at}
use Rattle.outbox_core.specs.OutboxParts.{OutboxParts, contents, ForEntries, IsDurableAs}
use Rattle.filing_model.specs.Views.{view_state}
use Rattle.filer_client.specs.declared.fault.ExchangeFault.{ExchangeFault}
use Rattle.filer_client.specs.declared.fault.ExchangeFault.TheVariants.{Write, Reply, Take}
use Rattle.filer_client.specs.declared.request.ToSend.{ToSend}
use Rattle.filer_client.specs.declared.request.ToSend.TheVariants.{Request, Settled}

-- ---- what is to be sent

-- the bytes of the request of the entry of an id
abbrev pub request_at : List ℕ → List Entry → ℕ → Option (List ℕ)
request_at filer entries id = option_map (λ e. bytes_of (request_of filer e)) (entry_at entries id)

-- the entry of this id is open, and these are the bytes of its request
pub record IsOpenRequest (filer : List ℕ) (entries : List Entry) (id : ℕ) (text : List ℕ) : Type 0 where
  pub entry : Entry
  pub at : entry_at entries id ≡ Some entry
  pub is_open : entry.state ≡ Open
  pub bytes : text ≡ bytes_of (request_of filer entry)

-- the entry of this id is in this state, which is not open
pub record IsSettled (entries : List Entry) (id : ℕ) (state : State) : Type 0 where
  pub entry : Entry
  pub at : entry_at entries id ≡ Some entry
  pub state_is : entry.state ≡ state
  pub settled : state ≢ Open

-- what the entry of this id has to send
abbrev pub IsToSend : List ℕ → List Entry → ℕ → ToSend → Type 0
IsToSend filer entries id (Request text) = IsOpenRequest filer entries id text.items
IsToSend filer entries id (Settled state) = IsSettled entries id (view_state state)

-- ---- what was read

-- the bytes that the reader gave give a reply of which this holds
abbrev pub Hears : Option (List ℕ) → Option (List ℕ) → (ReplyParts → Type 0) → Type 0
Hears before after P = (reply : ReplyParts) × HasGiven before after (λ bytes. GivesReply bytes reply) × P reply

-- what this reader gave is a reply of which this holds
abbrev pub HearsFrom : {R : Type 0} → Reads R → R → R → (ReplyParts → Type 0) → Type 0
HearsFrom g old new P = Hears (g.left old) (g.left new) P

-- the state to which a reply moves the entry of an id
abbrev pub moved_at : List Entry → ℕ → ReplyParts → Option State
moved_at entries id reply = option_map (λ e. moved e.state reply) (entry_at entries id)

-- ---- the whole exchange, over what was written and what is left to read, before and after

-- Of an entry that is not open the state is answered: nothing is written or read. Of an open one the whole request is
-- written, and it moves by the reply that is read.
abbrev pub IsExchanged : List ℕ → List Entry → ℕ → Option (List ℕ) → Option (List ℕ) → Option (List ℕ) → Option (List ℕ)
    → State → Type 0
IsExchanged filer entries id written written' left left' to =
    (IsSettled entries id to × Appends written written' [] × (left' ≡ left))
    ⊎ ((text : List ℕ) × IsOpenRequest filer entries id text × Appends written written' text
    × Hears left left' (λ reply. to ≡ moved Open reply))

-- the whole request of an open entry was written
abbrev pub WritesRequest : List ℕ → List Entry → ℕ → Option (List ℕ) → Option (List ℕ) → Type 0
WritesRequest filer entries id written written' =
    (text : List ℕ) × IsOpenRequest filer entries id text × Appends written written' text

-- What was written before each fault: the first `sent` bytes of an open entry's request after a failed write; the whole
-- request if no reply was read; nothing if there is no entry; and otherwise the whole request or nothing.
abbrev pub WritesBefore : List ℕ → List Entry → ℕ → Option (List ℕ) → Option (List ℕ) → ExchangeFault → Type 0
WritesBefore filer entries id written written' (Write sent) =
    (text : List ℕ) × IsOpenRequest filer entries id text × (sent ≤ length text)
    × Appends written written' (take sent text)
WritesBefore filer entries id written written' (Reply fault) = WritesRequest filer entries id written written'
WritesBefore filer entries id written written' (Take NoEntry) =
    (entry_at entries id ≡ None) × Appends written written' []
WritesBefore filer entries id written written' (Take Memory) =
    Appends written written' [] ⊎ WritesRequest filer entries id written written'
WritesBefore filer entries id written written' (Take Store) =
    Appends written written' [] ⊎ WritesRequest filer entries id written written'

-- Why the exchange failed, by how many calls of the reader and of the writer had failed before and after it: a fault of
-- a device comes only if that device failed.
abbrev pub IsFault : Option (List ℕ) → Option (List ℕ) → ℕ → ℕ → ℕ → ℕ → ExchangeFault → Type 0
IsFault left left' reads reads' writes writes' (Write sent) = HasFailed writes writes' × (reads' ≡ reads)
IsFault left left' reads reads' writes writes' (Reply fault) =
    IsReplyFailure left left' reads reads' fault × (writes' ≡ writes)
IsFault left left' reads reads' writes writes' (Take fault) = (reads' ≡ reads) × (writes' ≡ writes)

-- why the exchange failed that read from this reader
abbrev pub IsFaultOf : {R : Type 0} → Reads R → R → R → ℕ → ℕ → ExchangeFault → Type 0
IsFaultOf g old new writes writes' fault =
    IsFault (g.left old) (g.left new) (g.read_failures old) (g.read_failures new) writes writes' fault

-- ---- what a crash leaves

-- after an answer a crash leaves these entries alone
abbrev pub IsDurableOnOk : {S X E : Type 0} → Ghosts S → OutboxParts S → OutboxParts S → Result X E → Type 0
IsDurableOnOk g old new result =
    ForEntries g old new (λ entries. OnOk result (IsDurableAs g new (contents new entries)))
