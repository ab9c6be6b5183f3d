use Rattle.std.proofs.Common.{◌≡◌, ◌<◌, ◌≤◌, ℕ, List, suc, length, get_or}
use Rattle.sqlite.specs.Order.{Row}
use Rattle.outbox_tables.specs.declared.opening.targets.Said.{Said}
use Rattle.outbox_tables.specs.Audit.{with_id}
use Rattle.outbox_tables.specs.Targets.{said_by}
use Rattle.outbox_tables.proofs.TallyLemmas.{AreFit}
use Rattle.outbox_tables.proofs.opening.audit.first_damaged.Given as goal

abbrev pub invariant-loop-at : goal.invariant-loop-at
invariant-loop-at l = (l.at ≤ l.tally.sound)
    × ((targets : List Row) → ((place : ℕ) (d : Said) → place < length l.said
    → get_or l.said place d ≡ said_by (with_id (suc place) targets))
    → AreFit targets 1 l.at)
