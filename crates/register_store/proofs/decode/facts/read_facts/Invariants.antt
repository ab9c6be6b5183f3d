use Rattle.std.proofs.Common.{◌≡◌, map, take}
use Rattle.register_rows.specs.Columns.{fact_in}
use Rattle.register_store.proofs.decode.facts.read_facts.Given as goal

abbrev pub invariant-loop-row : goal.invariant-loop-row
invariant-loop-row l = l.list.items ≡ map fact_in (take l.row-index l.rows)
