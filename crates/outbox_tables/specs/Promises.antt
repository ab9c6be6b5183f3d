-- What calls on a connection say of the outbox that it holds.
use Rattle.sqlite.specs.Store.{Ghosts}
use Rattle.sqlite.specs.Held.{Held, state}
use Rattle.sqlite.specs.State.{HasCleanDisk}
use Rattle.outbox_tables.specs.Entries.{Contents}
use Rattle.outbox_tables.specs.Rows.{IsOutboxOf}

-- If the disk is clean at the end, this holds of the outbox that the rows held before.
abbrev pub ForOutbox : {S : Type 0} → Ghosts S → Held S → Held S → (Contents → Type 0) → Type 0
ForOutbox g old new P = HasCleanDisk (state g new) → (it : Contents) → IsOutboxOf it (state g old).now → P it
