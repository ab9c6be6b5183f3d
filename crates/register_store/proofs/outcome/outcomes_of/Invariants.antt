use Rattle.std.proofs.Common.{◌≡◌, ◌+◌, ◌≤◌, map, take}
use Rattle.filing_model.specs.Views.{view_outcome}
use Rattle.register_store.specs.Outcomes.{number_past, outcomes_from}
use Rattle.register_store.proofs.outcome.outcomes_of.Given as goal

-- the first outcomes are there
abbrev pub invariant-each : goal.invariant-each
invariant-each l = record {
  next_is : l.next ≡ number_past l.number (take l.row-index l.rows);
  few : l.next ≤ l.number + l.row-index;
  are : map view_outcome l.outcomes.items ≡ outcomes_from l.number (take l.row-index l.rows);
}
