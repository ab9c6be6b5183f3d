-- Outboxes with one entry, and what is sent for it.
use Rattle.std.specs.Prelude.{ℕ, true, [], ◌∷◌, Option, Some}
use Rattle.filing_model.specs.Request.{Request}
use Rattle.filing_model.specs.Outbox.{State, Entry, bytes_of}
use Rattle.filing_world.specs.World.{Outbox, Sent}

-- an outbox of the request's filer with this one entry
abbrev pub entry_with : Request → State → Entry
entry_with r state = record { key = r.key; target = r.target; body = r.body; state = state }

abbrev pub outbox_with : Request → State → Outbox
outbox_with r state = record { filer = r.filer; entries = entry_with r state ∷ []; up = true }

-- the request as it was sent for an entry, or by a stranger
abbrev pub sent_by : Option (ℕ × ℕ) → Request → Sent
sent_by sender r = record { from = sender; bytes = bytes_of r }

-- the request as that entry sent it
abbrev pub item_of : ℕ → Request → Sent
item_of outbox r = sent_by (Some (outbox, 1)) r
