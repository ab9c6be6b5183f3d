-- What is printed of entries.
use Rattle.std.specs.Prelude.{ℕ, List, [], ◌++◌, length, codes, Option, Some, None, Result, Ok, Err}
use Rattle.std.specs.Fmt.{decimal}
use Rattle.filing_model.specs.Outbox.{Entry, State, Open, state_words}
use Rattle.filing_model.specs.Views.{view_state}
use Rattle.filing_model.specs.declared.state.State.{State as Stored}

-- entry ID
abbrev pub id_line : ℕ → List ℕ
id_line id = codes "entry " ++ decimal id ++ codes "\n"

-- entry ID STATE
abbrev pub entry_line : ℕ → State → List ℕ
entry_line id state = codes "entry " ++ decimal id ++ codes " " ++ state_words state ++ codes "\n"

-- the line of an id and a state as `states` answers them
abbrev pub told_line : ℕ × Stored → List ℕ
told_line (id, state) = entry_line id (view_state state)

-- the line of an entry
abbrev pub state_line : ℕ × Entry → List ℕ
state_line (id, entry) = entry_line id entry.state

-- the line of an entry that was tried: its state, or that it is still open
abbrev pub line_of : {E : Type 0} → ℕ → Result Stored E → List ℕ
line_of id (Ok state) = entry_line id (view_state state)
line_of id (Err fault) = entry_line id Open

-- entry ID STATE, and a comma
abbrev pub front_part : ℕ → State → List ℕ
front_part id state = codes "entry " ++ decimal id ++ codes " " ++ state_words state ++ codes ", "

-- LENGTH bytes
abbrev pub size_part : ℕ → List ℕ
size_part bytes = decimal bytes ++ codes " bytes"

-- which filing the entry replaces, if it replaces one
abbrev pub target_part : Option ℕ → List ℕ
target_part None = []
target_part (Some number) = codes ", replaces " ++ decimal number

-- entry ID STATE, LENGTH bytes, replaces N, key KEY
abbrev pub long_line : ℕ × Entry → List ℕ
long_line (id, entry) =
    front_part id entry.state ++ size_part (length entry.body) ++ target_part entry.target ++ codes ", key "
    ++ entry.key ++ codes "\n"

-- what is printed if no entry is open
abbrev pub nothing_open : List ℕ
nothing_open = codes "nothing open\n"
