-- Entries as an outbox lists them.
use Rattle.std.specs.Prelude.{ℕ}
use Rattle.filing_model.specs.Outbox.{State}
use Rattle.filing_model.specs.declared.state.State.{State as Stored}
use Rattle.filing_model.specs.Views.{view_state}

-- an entry of the outbox of this number, by its own number and its state
abbrev pub listed : ℕ → ℕ × Stored → ℕ × ℕ × State
listed outbox (number, state) = (outbox, number, view_state state)
