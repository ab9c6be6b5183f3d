-- What an outbox shows.
use Rattle.std.specs.Prelude.{◌≡◌, ℕ, Bool, List, length, Result, Some, IsTrue, IfOk, OnErr, refl}
use Rattle.std.specs.Coded.{Coded, code_by, coded×, coded_ℕ, coded_bool, coded_list}
use Rattle.sqlite.specs.Store.{Ghosts}
use Rattle.sqlite.specs.Tree.{Trees}
use Rattle.sqlite.specs.Held.{Held, held_code, state}
use Rattle.sqlite.specs.State.{State, HasCleanDisk, Survives}
use Rattle.http_messages.specs.Reply.{ReplyParts}
use Rattle.filing_model.specs.Outbox.{Entry, moved}
use Rattle.table_rows.specs.Standing.{HasCommitted}
use Rattle.outbox_tables.specs.Entries.{Contents, entry_at}
use Rattle.outbox_core.specs.Entries.{with_state}
use Rattle.outbox_tables.specs.Rows.{IsOutboxOf, LeavesOutbox}

-- a connection, the filer, how many entries there are, and whether a call was refused as Store
pub record OutboxParts (S : Type 0) : Type 0 where
  pub conn : Held S
  pub filer : List ℕ
  pub count : ℕ
  pub has_failed : Bool

abbrev pub parts_code : {S : Type 0} → Coded S → Coded (OutboxParts S)
parts_code {S} store =
    code_by (Held S × (List ℕ × (ℕ × Bool))) (coded× (held_code store)
    (coded× (coded_list coded_ℕ) (coded× coded_ℕ coded_bool)))
    (λ b. (b.conn, (b.filer, (b.count, b.has_failed))))
    (λ p. record { conn = p.0; filer = p.1.0; count = p.1.1.0; has_failed = p.1.1.1 }) (λ _. refl)

-- the state of the outbox's connection
abbrev pub shows : {S : Type 0} → Ghosts S → OutboxParts S → State
shows g box = state g box.conn

-- the outbox's filer with these entries
abbrev pub contents : {S : Type 0} → OutboxParts S → List Entry → Contents
contents box entries = record { filer = box.filer; entries = entries }

-- While the outbox is open, it holds these entries, and they are committed. An outbox that a fault of the disk shut
-- says nothing of its rows.
pub record HasEntries {S : Type 0} (g : Ghosts S) (box : OutboxParts S) (entries : List Entry) : Type 0 where
  pub stands : HasCommitted (IsOutboxOf (contents box entries)) (shows g box)
  pub count : box.count ≡ length entries

-- If the disk is clean at the end, this holds of the entries that the outbox had before.
abbrev pub ForEntries : {S : Type 0} → Ghosts S → OutboxParts S → OutboxParts S → (List Entry → Type 0) → Type 0
ForEntries g old new P = HasCleanDisk (shows g new) → (entries : List Entry) → HasEntries g old entries → P entries

-- This holds of the outbox that a call hands out, if its disk is clean.
abbrev pub HandsOut : {S E : Type 0} → Ghosts S → Result (OutboxParts S) E → (OutboxParts S → Type 0) → Type 0
HandsOut g result Holds = IfOk result (λ outbox. HasCleanDisk (shows g outbox) → Holds outbox)

-- a refusal changes no entry
abbrev pub KeepsOnRefusal : {S X E : Type 0} → Ghosts S → OutboxParts S → OutboxParts S → Result X E → Type 0
KeepsOnRefusal g old new result = ForEntries g old new (λ entries. OnErr result (HasEntries g new entries))

-- The outbox is open, and a crash now leaves it with these contents.
abbrev pub IsDurableAs : {S : Type 0} → Ghosts S → OutboxParts S → Contents → Type 0
IsDurableAs g box it =
    IsTrue (shows g box).is_open × ((trees : Trees) → (shows g box).may_leave trees → LeavesOutbox it trees)

-- A crash in the call leaves what one before it could leave, or these trees, which depend on the entries before it.
abbrev pub SurvivesAs : {S : Type 0} → Ghosts S → OutboxParts S → OutboxParts S → (List Entry → Trees → Type 0) → Type 0
SurvivesAs g old new Leaves =
    Survives (shows g old) (shows g new) (λ trees. (entries : List Entry) → HasEntries g old entries
    → IsTrue (shows g old).is_open → Leaves entries trees)

-- the id names an entry, and the trees are of this outbox after its move by the reply
abbrev pub LeavesMoved : Contents → ℕ → ReplyParts → Trees → Type 0
LeavesMoved it id reply trees =
    (e : Entry) × (entry_at it.entries id ≡ Some e) × LeavesOutbox (with_state it id (moved e.state reply)) trees
