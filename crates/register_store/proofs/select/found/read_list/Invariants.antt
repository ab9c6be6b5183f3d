use Rattle.std.proofs.Common.{◌≡◌, map, take}
use Rattle.register_store.specs.Found.{finding_in}
use Rattle.register_store.proofs.select.found.read_list.Given as goal

abbrev pub invariant-loop-row : goal.invariant-loop-row
invariant-loop-row l = l.list.items ≡ map finding_in (take l.row-index l.rows)
