use Rattle.std.proofs.Common.{◌≡◌, ◌+◌, drop}
use Rattle.std.specs.List.{position_or_len}
use Rattle.xbrl_values.specs.Number.{is_exponent_mark}
use Rattle.xbrl_values.proofs.number.place_of_exponent_mark.Given as goal

abbrev pub invariant-loop-index : goal.invariant-loop-index
invariant-loop-index l =
    position_or_len is_exponent_mark l.bytes ≡ l.index + position_or_len is_exponent_mark (drop l.index l.bytes)
