-- What a statement shows of an entry if it selects some columns.
use Rattle.std.specs.Prelude.{ℕ, pos, [], ◌∷◌}
use Rattle.sqlite.specs.declared.types.Value.TheVariants.{Int}
use Rattle.sqlite.specs.Order.{Row}
use Rattle.filing_model.specs.Outbox.{Entry}
use Rattle.outbox_tables.specs.Rows.{code_of, number_of}

-- the column `id`
abbrev pub id_row : ℕ × Entry → Row
id_row (id, e) = Int (pos id) ∷ []

-- the columns `state` and `number`
abbrev pub bare_state_row : ℕ × Entry → Row
bare_state_row (id, e) = Int (pos (code_of e.state)) ∷ number_of e.state ∷ []

-- the columns `id`, `state` and `number`
abbrev pub state_row : ℕ × Entry → Row
state_row (id, e) = Int (pos id) ∷ Int (pos (code_of e.state)) ∷ number_of e.state ∷ []
