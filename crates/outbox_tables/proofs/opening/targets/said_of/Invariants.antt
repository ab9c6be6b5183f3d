use Rattle.std.proofs.Common.{◌≡◌, ◌<◌, ℕ, suc, length, take, get_or}
use Rattle.outbox_tables.specs.declared.opening.targets.Said.{Said}
use Rattle.outbox_tables.specs.Audit.{with_id}
use Rattle.outbox_tables.specs.Targets.{said_by}
use Rattle.outbox_tables.proofs.opening.targets.said_of.Given as goal

abbrev pub invariant-loop-at : goal.invariant-loop-at
invariant-loop-at l =
    (length l.said.items ≡ l.count) × ((place : ℕ) (d : Said) → place < l.count
    → get_or l.said.items place d ≡ said_by (with_id (suc place) (take l.at l.targets)))
