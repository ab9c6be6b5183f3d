use Rattle.std.proofs.Common.{◌≡◌, ◌+◌, drop}
use Rattle.std.specs.List.{prefix_len}
use Rattle.xbrl_values.specs.Number.{is_space}
use Rattle.xbrl_values.proofs.number.start_of.Given as goal

abbrev pub invariant-loop-index : goal.invariant-loop-index
invariant-loop-index l = prefix_len is_space l.bytes ≡ l.index + prefix_len is_space (drop l.index l.bytes)
