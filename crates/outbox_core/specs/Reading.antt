-- Entries and states as values, apart from where they are in memory.
use Rattle.std.specs.Prelude.{◌≡◌, ℕ, pos, if◌then◌else◌, Option, option_map, Result, IfOk}
use Rattle.std.specs.Ordering.{int_eq}
use Rattle.sqlite.specs.declared.types.Value.{Value}
use Rattle.sqlite.specs.declared.types.Value.TheVariants.{Int, Text, Blob}
use Rattle.sqlite.specs.Order.{Row, column}
use Rattle.filing_model.specs.Outbox.{Entry, State, Open, Confirmed, Refused, Clashed}
use Rattle.filing_model.specs.Views.{view_state}
use Rattle.filing_model.specs.declared.state.State.{State as Stored}
use Rattle.outbox_core.specs.declared.entry.Entry.{Entry as Read}
use Rattle.outbox_tables.specs.Rows.{code_of, number_of}

-- the id of an entry, and the rest
abbrev pub view_entry : Read → ℕ × Entry
view_entry e = (e.id, record { key = e.key; target = e.target; body = e.body.items; state = view_state e.state })

-- the answer is this entry under its id, or none
abbrev pub Finds : {E : Type 0} → Result (Option Read) E → Option (ℕ × Entry) → Type 0
Finds result found = IfOk result (λ entry. option_map view_entry entry ≡ found)

-- what the columns of a row say of an entry
pub record Shows (row : Row) (e : Read) : Type 0 where
  pub id : column row 0 ≡ Int (pos e.id)
  pub key : column row 1 ≡ Text e.key
  pub body : column row 2 ≡ Blob e.body.items
  pub code : column row 3 ≡ Int (pos (code_of (view_state e.state)))
  pub number : column row 4 ≡ number_of (view_state e.state)

-- ---- what a row says, from the row to the entry

abbrev pub nat_in : Value → ℕ
nat_in (Int (pos n)) = n
nat_in _ = 0

abbrev pub state_in : Value → Value → State
state_in (Int code) number =
    if int_eq code (pos 1) then Confirmed (nat_in number)
    else (if int_eq code (pos 2) then Refused else (if int_eq code (pos 3) then Clashed else Open))
state_in _ number = Open

-- the id and the state in a row of id, state and number
abbrev pub state_told : Row → ℕ × State
state_told row = (nat_in (column row 0), state_in (column row 1) (column row 2))

-- an id and a state
abbrev pub view_pair : ℕ × Stored → ℕ × State
view_pair (id, state) = (id, view_state state)

-- the id and the state of an entry
abbrev pub id_and_state : ℕ × Entry → ℕ × State
id_and_state (id, e) = (id, e.state)
