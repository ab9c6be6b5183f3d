-- What is looked up among the entries of an outbox, and how a call changes them.
use Rattle.std.specs.Prelude.{ℕ, ◌==◌, Bool, true, false, List, [], ◌∷◌, ◌++◌, bytes_eq, find, Option, option_map}
use Rattle.filing_model.specs.Numbered.{changed}
use Rattle.filing_model.specs.Outbox.{Entry, State, Open}
use Rattle.outbox_tables.specs.Entries.{Contents, numbered, entry_at}

-- the entry of an id under it, if there is one
abbrev pub found_at : List Entry → ℕ → Option (ℕ × Entry)
found_at entries id = option_map (λ e. (id, e)) (entry_at entries id)

abbrev pub has_id : ℕ → ℕ × Entry → Bool
has_id id x = x.0 == id

abbrev pub has_text : List ℕ → ℕ × Entry → Bool
has_text key x = bytes_eq x.1.key key

abbrev pub is_open_state : State → Bool
is_open_state Open = true
is_open_state _ = false

abbrev pub is_open : ℕ × Entry → Bool
is_open x = is_open_state x.1.state

-- the open entry with the least id
abbrev pub first_open : List Entry → Option (ℕ × Entry)
first_open entries = find is_open (numbered entries)

-- an entry as it is first kept
abbrev pub opened : List ℕ → Option ℕ → List ℕ → Entry
opened key target body = record { key = key; target = target; body = body; state = Open }

-- the contents with one entry more
abbrev pub with_entry : Contents → Entry → Contents
with_entry it e = record { filer = it.filer; entries = it.entries ++ e ∷ [] }

-- an entry in another state
abbrev pub in_state : State → Entry → Entry
in_state state e = record e { state = state }

-- the entries, with the one of this id in this state
abbrev pub set_state : List Entry → ℕ → State → List Entry
set_state entries id state = changed (in_state state) entries id

-- the contents, with the entry of this id in this state
abbrev pub with_state : Contents → ℕ → State → Contents
with_state it id state = record { filer = it.filer; entries = set_state it.entries id state }
