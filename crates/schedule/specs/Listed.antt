-- Entries as they are listed. They are listed if all outboxes are up.
use Rattle.std.specs.Prelude.{ℕ, Bool, List}
use Rattle.std.specs.List.{list_all}
use Rattle.filing_model.specs.Outbox.{State}
use Rattle.filing_world.specs.World.{Outbox}
use Rattle.filing_model.specs.declared.state.State.{State as Stored}
use Rattle.filing_model.specs.Views.{view_state}

-- an entry by the number of its outbox, its own number and its state
abbrev pub view_listed : ℕ × ℕ × Stored → ℕ × ℕ × State
view_listed (outbox, number, state) = (outbox, number, view_state state)

-- whether all outboxes are up
abbrev pub are_up : List Outbox → Bool
are_up = list_all (λ box. box.up)
