-- An entry that is not open.
use Rattle.std.proofs.Common.{◌≡◌, ℕ, List, Some, option_map, ap, ◌∙◌}
use Rattle.filing_model.specs.Outbox.{Entry, State}
use Rattle.outbox_core.specs.Entries.{set_state}
use Rattle.outbox_core.proofs.EntryLemmas.{same_state}
use Rattle.filer_client.specs.Exchange.{IsSettled}

-- the entries with it in its own state are the same
pub set_settled : (entries : List Entry) (id : ℕ) (state : State) → IsSettled entries id state
    → set_state entries id state ≡ entries
set_settled entries id state it =
    same_state entries id state (ap (option_map (λ (e : Entry). e.state)) it.at ∙ ap Some it.state_is)
