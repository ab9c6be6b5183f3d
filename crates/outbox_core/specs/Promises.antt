-- What calls on the connection of an open outbox promise.
use Rattle.std.specs.Prelude.{Result, OnErr}
use Rattle.sqlite.specs.Store.{Ghosts}
use Rattle.sqlite.specs.Held.{Held, state}
use Rattle.sqlite.specs.State.{State, HasCleanDisk}
use Rattle.table_rows.specs.Standing.{HasCommitted}
use Rattle.outbox_tables.specs.Entries.{Contents}
use Rattle.outbox_tables.specs.Rows.{IsOutboxOf}

-- If the disk is clean at the end, this holds of the outbox that the rows held before, if that was committed.
abbrev pub ForContents : {S : Type 0} → Ghosts S → Held S → Held S → (Contents → Type 0) → Type 0
ForContents g old new P = HasCleanDisk (state g new) → (it : Contents) → HasCommitted (IsOutboxOf it) (state g old)
    → P it

-- If the disk is clean at the end and the call is refused, the rows still hold the outbox that they held before, and it
-- is committed.
abbrev pub KeepsOutboxOnRefusal : {X E : Type 0} → State → State → Result X E → Type 0
KeepsOutboxOnRefusal old new result = HasCleanDisk new → (it : Contents) → HasCommitted (IsOutboxOf it) old
    → OnErr result (HasCommitted (IsOutboxOf it) new)
